use Rattle.std.proofs.Common.{map, arith}
use Rattle.std.proofs.lemmas.Result.{err_from_is_err_and}
use Rattle.std.proofs.lemmas.List.{length-map}
use Rattle.aml_tokens.specs.Token.{token_of, tokens_of}
use Rattle.aml_tree.specs.Tree.{method_tree}
use Rattle.aml_parser.proofs.Steps.{falls}
use Rattle.aml_parser.proofs.ProgramSteps.{listing_begins, head_so_far, listing_goes, listing_ends, listing_headless, listing_stops}
use Rattle.aml_parser.proofs.methods.methods.Goals as goal

pub loop-alloc-init : goal.loop-alloc-init
loop-alloc-init c = record { so_far = rw c.new-methods.ensures.items (listing_begins (tokens_of c.args.tokens.now)) }

pub returns-then-may_end : goal.returns-then-may_end
returns-then-may_end c =
    let over = c.may_end.ensures.yes c.if-may_end.true in
    record {
      reads =
          listing_ends (tokens_of c.args.tokens.now) c.loop-alloc.end (map method_tree c.loop-alloc.methods.items) c.loop-alloc.invariant.so_far
          (omega (arith, over.0, c.len-before.ensures, length-map c.loop-alloc.methods.items method_tree)) (omega (arith, over.1, length-map c.args.tokens.now token_of));
    }

pub returns-in_err-is_read : goal.returns-in_err-is_read
returns-in_err-is_read c =
    let p = err_from_is_err_and c.from_residual.result c.from_residual.ensures.1 in
    record {
      reads =
          rw (p.1, p.2) (falls c.in_err-is_read.field-0.0 c.in_err-is_read.ensures.reads
          (λ fault h. listing_headless (tokens_of c.args.tokens.now) c.len-before.result c.loop-alloc.end (map method_tree c.loop-alloc.methods.items) fault c.loop-alloc.invariant.so_far
          (omega (arith, c.len-before.ensures, length-map c.loop-alloc.methods.items method_tree)) h));
    }

pub returns-in_err-method : goal.returns-in_err-method
returns-in_err-method c =
    let p = err_from_is_err_and c.from_residual-in_err-method.result c.from_residual-in_err-method.ensures.1 in
    record {
      reads =
          rw (p.1, p.2) (falls c.in_err-method.field-0.0 c.in_err-method.ensures.reads
          (λ fault h. listing_stops (tokens_of c.args.tokens.now) c.loop-alloc.end c.in_ok-is_read.start (map method_tree c.loop-alloc.methods.items) c.in_ok-is_read.is_read fault c.loop-alloc.invariant.so_far
          (head_so_far (tokens_of c.args.tokens.now) c.len-before.result c.loop-alloc.end c.in_ok-is_read.start (map method_tree c.loop-alloc.methods.items) c.in_ok-is_read.is_read
          (omega (arith, c.len-before.ensures, length-map c.loop-alloc.methods.items method_tree)) c.in_ok-is_read.ensures.reads) h));
    }

pub loop-alloc-preserved : goal.loop-alloc-preserved
loop-alloc-preserved c = record {
  so_far =
      listing_goes (tokens_of c.args.tokens.now) c.loop-alloc.end c.in_ok-is_read.start c.in_ok-method.behind (map method_tree c.loop-alloc.methods.items) (map method_tree c.put_method.new.methods.items) c.in_ok-is_read.is_read
      (method_tree c.in_ok-method.method) c.loop-alloc.invariant.so_far
      (head_so_far (tokens_of c.args.tokens.now) c.len-before.result c.loop-alloc.end c.in_ok-is_read.start (map method_tree c.loop-alloc.methods.items) c.in_ok-is_read.is_read
      (omega (arith, c.len-before.ensures, length-map c.loop-alloc.methods.items method_tree)) c.in_ok-is_read.ensures.reads)
      c.in_ok-method.ensures.reads c.in_ok-put_method.ensures;
}
