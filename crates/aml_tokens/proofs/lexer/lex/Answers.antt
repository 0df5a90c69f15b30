use Rattle.std.proofs.Common.{◌≡◌, ◌+◌, ℕ, Some, length, sym, ap, ◌∙◌, arith}
use Rattle.std.specs.List.{between}
use Rattle.std.proofs.lemmas.List.{map_push}
use Rattle.std.proofs.lemmas.List.Edits.{length-between}
use Rattle.aml_tokens.specs.Token.{tokens_of, token_of}
use Rattle.aml_tokens.specs.Lexing.{Tokens, line_at, capped, lexed}
use Rattle.aml_tokens.specs.Reading.{pieces_at}
use Rattle.aml_tokens.proofs.Joined.{stops_at, one_more, more_lines}
use Rattle.aml_tokens.proofs.lexer.lex.Goals as goal

stopped : (c : goal.In-Err) → lexed c.args.text.now ≡ record { tokens = tokens_of c.loop-at.tokens.items; places = c.loop-at.places.items; stop = Some (c.loop-at.at, c.in-Err.cause) }
stopped c =
    let text = c.args.text.now in
    let at = c.loop-at.at in
    let end = c.piece_end-end.result in
    let behind : at + length (between at end text) ≡ end = omega (arith, length-between text at end (omega arith)) in
    let place : c.told.result ≡ line_at text at =
    c.told.ensures ∙ ap (λ (n : ℕ). capped (1 + n)) (more_lines text c.loop-at.counted at c.loop-at.lines c.line_feeds-lines.result c.loop-at.invariant.order c.loop-at.invariant.lines c.line_feeds-lines.ensures.count c.loop-at.invariant.within) in
    sym c.loop-at.invariant.whole
    ∙ stops_at text (tokens_of c.loop-at.tokens.items) c.loop-at.places.items at (between at end text) (pieces_at text end) c.told.result c.in-Err.cause place (c.in-Err.ensures at behind) c.piece_end-end.ensures.piece

pub returns-in-Err-clause-tokens : goal.returns-in-Err-clause-tokens
returns-in-Err-clause-tokens c = sym (ap (λ (t : Tokens). t.tokens) (stopped c))

pub returns-in-Err-clause-places : goal.returns-in-Err-clause-places
returns-in-Err-clause-places c = sym (ap (λ (t : Tokens). t.places) (stopped c))

pub returns-in-Err-clause-stop : goal.returns-in-Err-clause-stop
returns-in-Err-clause-stop c = sym (ap (λ (t : Tokens). t.stop) (stopped c))

pub loop-at-preserved : goal.loop-at-preserved
loop-at-preserved c =
    let text = c.args.text.now in
    let at = c.loop-at.at in
    let end = c.piece_end-end.result in
    let behind : at + length (between at end text) ≡ end = omega (arith, length-between text at end (omega arith)) in
    let lines = more_lines text c.loop-at.counted at c.loop-at.lines c.line_feeds-lines.result c.loop-at.invariant.order c.loop-at.invariant.lines c.line_feeds-lines.ensures.count c.loop-at.invariant.within in
    let place : c.told.result ≡ line_at text at = c.told.ensures ∙ ap (λ (n : ℕ). capped (1 + n)) lines in
    record {
      whole =
          one_more text (tokens_of c.loop-at.tokens.items) (tokens_of c.push.new.self.items) c.loop-at.places.items c.push-in-Ok.new.self.items (lexed text) at c.next_piece-at-in-loop-at.result (between at end text) (pieces_at text end)
          c.told.result (token_of c.in-Ok.token) place (c.in-Ok.ensures at behind) c.piece_end-end.ensures.piece
          (ap tokens_of c.in_ok-push-in-Ok.ensures.items ∙ map_push token_of c.loop-at.tokens.items c.in-Ok.token) c.in_ok-push-in-Ok-2.ensures.items c.next_piece-at-in-loop-at.ensures.same c.loop-at.invariant.whole;
      lines = lines;
      order = omega arith;
      within = omega arith;
      no_blank = c.next_piece-at-in-loop-at.ensures.no_blank;
      no_comment = c.next_piece-at-in-loop-at.ensures.no_comment;
    }
