-- Lists with commas between their items, as they are read: an item, and further ones behind commas.
use Rattle.std.proofs.Common.{◌≡◌, ℕ, ◌+◌, List, [], ◌∷◌, ◌++◌, map, None, refl, sym, ap, ◌∙◌, append_assoc}
use Rattle.aml_tokens.specs.declared.tokens.Symbol.TheVariants as symbol
use Rattle.aml_tokens.specs.declared.tokens.Word.{Word}
use Rattle.aml_tokens.specs.Token.{Token}
use Rattle.aml_tokens.specs.Token as token
use Rattle.aml_tree.specs.Tree.{Expr}
use Rattle.aml_tree.specs.Grammar.{spelling, listed, name_spelling}
use Rattle.aml_tree.specs.Limits.{Mark, marks, listed_marks, parameter, parameter_marks}
use Rattle.aml_parser.proofs.Written.{further, arguments, further_marks, argument_marks, parameters, parameters_marks}

pub arguments_listed : (es : List (Expr Word)) (rest : List Token) → listed (map spelling es) ++ token.Sign symbol.Close ∷ rest ≡ arguments es ++ rest
arguments_listed [] rest = refl
arguments_listed (e ∷ []) rest = sym (append_assoc (spelling e) (token.Sign symbol.Close ∷ []) rest)
arguments_listed (e ∷ f ∷ es) rest =
    append_assoc (spelling e) (token.Sign symbol.Comma ∷ listed (map spelling (f ∷ es))) (token.Sign symbol.Close ∷ rest)
    ∙ ap (λ (ts : List Token). spelling e ++ token.Sign symbol.Comma ∷ ts) (arguments_listed (f ∷ es) rest)
    ∙ sym (append_assoc (spelling e) (further (f ∷ es)) rest)

pub arguments_marked : (depth : ℕ) (es : List (Expr Word)) (rest : List Mark) → listed_marks (map (marks depth) es) ++ None ∷ rest ≡ argument_marks depth es ++ rest
arguments_marked depth [] rest = refl
arguments_marked depth (e ∷ []) rest = sym (append_assoc (marks depth e) (None ∷ []) rest)
arguments_marked depth (e ∷ f ∷ es) rest =
    append_assoc (marks depth e) (None ∷ listed_marks (map (marks depth) (f ∷ es))) (None ∷ rest)
    ∙ ap (λ (ts : List Mark). marks depth e ++ None ∷ ts) (arguments_marked depth (f ∷ es) rest)
    ∙ sym (append_assoc (marks depth e) (further_marks depth (f ∷ es)) rest)

pub parameters_listed : (ws : List Word) (rest : List Token) → listed (map name_spelling ws) ++ token.Sign symbol.Close ∷ rest ≡ parameters ws ++ rest
parameters_listed [] rest = refl
parameters_listed (w ∷ []) rest = refl
parameters_listed (w ∷ v ∷ ws) rest = ap (λ (ts : List Token). token.Name w ∷ token.Sign symbol.Comma ∷ ts) (parameters_listed (v ∷ ws) rest)

pub parameters_marked : (names : ℕ) (ws : List Word) (rest : List Mark) → listed_marks (parameter_marks names ws) ++ None ∷ rest ≡ parameters_marks names ws ++ rest
parameters_marked names [] rest = refl
parameters_marked names (w ∷ []) rest = refl
parameters_marked names (w ∷ v ∷ ws) rest = ap (λ (ts : List Mark). parameter names ∷ None ∷ ts) (parameters_marked (names + 1) (v ∷ ws) rest)
