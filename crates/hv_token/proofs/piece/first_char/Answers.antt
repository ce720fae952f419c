use Rattle.std.proofs.Common.{◌≡◌, ◌++◌, ◌∙◌, [], ap, sym, List, ℕ, length}
use Rattle.std.specs.Char.{encode_utf8}
use Rattle.std.specs.Str.{chars}
use Rattle.std.proofs.lemmas.List.{nil_from_length}
use Rattle.std.proofs.lemmas.Str.{chars-nil}
use Rattle.hv_token.proofs.Scanning.{begins}
use Rattle.hv_token.proofs.piece.first_char.Goals as goal

pub returns : goal.returns
returns c =
    begins c.args.text.now c.as_str.result.now c.in-Some.first c.utf8.text
    (sym c.chars-characters.ensures.rest ∙ c.in-Some.ensures.steps.0 ∙ ap (λ (r : List ℕ). encode_utf8 c.in-Some.first ++ r) (sym c.as_str.ensures))

pub returns-in_default : goal.returns-in_default
returns-in_default c =
    let none : length c.args.text.now ≡ 0 = sym (ap length c.chars-characters.ensures.rest) ∙ c.in_default.ensures.steps.0.0 in
    let e : c.args.text.now ≡ [] = nil_from_length c.args.text.now none in (e, ap chars e ∙ chars-nil)
