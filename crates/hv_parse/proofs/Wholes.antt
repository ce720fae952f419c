-- From what is read of a whole list to what is answered of it.
use Rattle.std.proofs.Common.{◌≡◌, ◌-◌, [], ◌∷◌, ◌++◌, length, Option, Some, None, refl, sym, ◌∙◌, ap, subst, arith, append-nil, length-append}
use Rattle.std.specs.Prelude.{Result, Ok, Err}
use Rattle.std.specs.List.{slice_get}
use Rattle.hv_tree.specs.declared.place.Place.{Place}
use Rattle.hv_tree.specs.declared.refusal.Refusal.{Refusal}
use Rattle.hv_tree.specs.declared.refusal.Rule.TheVariants as rule
use Rattle.hv_tree.specs.declared.ast.Tree.{Tree}
use Rattle.hv_tree.specs.Tokens.{Tokens}
use Rattle.hv_tree.specs.Grammar.{Spells}
use Rattle.hv_tree.specs.Refusal.{most_open}
use Rattle.hv_syn_grammar.specs.declared.stop.Stop.{Stop}
use Rattle.hv_syn_grammar.specs.declared.stop.Stop.TheVariants as stop
use Rattle.hv_syn_grammar.specs.Parser.{Got, Off}
use Rattle.hv_syn_grammar.specs.Reads.{Reads}
use Rattle.hv_syn_grammar.specs.Declarations.{program}
use Rattle.hv_syn_exact.specs.Outcomes.{Outcome, IsProgram, Unfinished, TooManyOpen}
use Rattle.hv_syn_exact.proofs.Knot.{outcome}
use Rattle.hv_parse.specs.Answers.{refused, IsRefused, unexpected, unfinished, too_deep, lexical, Parses}
use Rattle.hv_parse.specs.Whole.{place_in, place_back, off_refusal, place_or, answer_of}

abbrev first_place : Tokens → Option Place
first_place [] = None
first_place (k ∷ ts) = Some k.place

at_length : (before rest : Tokens) → place_in (slice_get (before ++ rest) (length before)) ≡ first_place rest
at_length [] [] = refl
at_length [] (k ∷ rest) = refl
at_length (k ∷ before) rest = at_length before rest

length_over : (before rest : Tokens) → length (before ++ rest) - length rest ≡ length before
length_over before rest = omega (arith, length-append before rest)

place_there : (tokens before rest : Tokens) → tokens ≡ before ++ rest → place_back tokens (length rest) ≡ first_place rest
place_there tokens before rest e =
    ap (λ ts. place_back ts (length rest)) e
    ∙ ap (λ n. place_in (slice_get (before ++ rest) n)) (length_over before rest)
    ∙ at_length before rest

of_program : (tokens : Tokens) (stopped : Option Refusal) (at : Place) (next : Option Place) (tree : Tree) → IsProgram tokens tree → Parses tokens stopped at (answer_of next stopped at (Ok tree))
of_program tokens None at next tree p = record { whole = refl; spells = p.spells; only = p.only; no_p1 = p.no_p1; no_p2 = p.no_p2 }
of_program tokens (Some r) at next tree p = lexical refl (tree, [], subst (λ ts. Spells tree ts) (sym (append-nil tokens)) p.spells) p.no_p2

of_end : (tokens : Tokens) (stopped : Option Refusal) (at : Place) → Unfinished tokens → IsRefused tokens stopped at (off_refusal None stopped at)
of_end tokens None at u = unfinished tokens refl u.counts refl
of_end tokens (Some r) at u = lexical refl u.goes_on u.no_p2

of_off : (tokens rest : Tokens) (stopped : Option Refusal) (at : Place) → Outcome tokens (Off rest) → IsRefused tokens stopped at (off_refusal (place_back tokens (length rest)) stopped at)
of_off tokens [] stopped at u =
    subst (λ next. IsRefused tokens stopped at (off_refusal next stopped at)) (sym (place_there tokens tokens [] (sym (append-nil tokens)))) (of_end tokens stopped at u)
of_off tokens (k ∷ rest) stopped at u =
    subst (λ next. IsRefused tokens stopped at (off_refusal next stopped at)) (sym (place_there tokens u.before (k ∷ rest) u.counts.violated.is)) (unexpected u.before k rest u.counts refl)

of_deep : (tokens rest : Tokens) (stopped : Option Refusal) (at : Place) → TooManyOpen tokens rest → IsRefused tokens stopped at (refused rule.P2 (place_or (place_back tokens (length rest)) at))
of_deep tokens [] stopped at u = let e : [] ≡ u.bracket ∷ u.after = u.begins in absurd (cc)
of_deep tokens (k ∷ rest) stopped at u =
    subst (λ next. IsRefused tokens stopped at (refused rule.P2 (place_or next at))) (sym (place_there tokens u.before (k ∷ rest) u.counts.violated.is)) (too_deep u.before k rest u.counts refl)

pub parses : (tokens rest : Tokens) (stopped : Option Refusal) (at : Place) (read : Result Tree Stop) → Reads (program most_open tokens) read rest → Parses tokens stopped at (answer_of (place_back tokens (length rest)) stopped at read)
parses tokens rest stopped at (Ok tree) e = let o : Outcome tokens (Got tree rest) = subst (Outcome tokens) e (outcome tokens) in of_program tokens stopped at (place_back tokens (length rest)) tree o.1
parses tokens rest stopped at (Err stop.Off) e = of_off tokens rest stopped at (subst (Outcome tokens) e (outcome tokens))
parses tokens rest stopped at (Err stop.Deep) e = of_deep tokens rest stopped at (subst (Outcome tokens) e (outcome tokens))
parses tokens rest stopped at (Err stop.NoMemory) e = tt
