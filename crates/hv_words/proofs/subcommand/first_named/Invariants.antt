use Rattle.std.proofs.Common.{◌≡◌, drop, map}
use Rattle.std.specs.Prelude.{find}
use Rattle.std.specs.Str.{bytes_eq}
use Rattle.hv_words.specs.Line.{form_of}
use Rattle.hv_words.proofs.subcommand.first_named.Given as goal

abbrev pub invariant-loop-form : goal.invariant-loop-form
invariant-loop-form l =
    find (λ f. bytes_eq l.name f.name) (map form_of (drop l.form-index l.rows))
    ≡ find (λ f. bytes_eq l.name f.name) (map form_of l.rows)
