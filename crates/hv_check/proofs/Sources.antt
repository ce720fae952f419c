-- What is read or refused of a source is what is so of its tokens, and of what is accepted or refused there is one.
use Rattle.std.proofs.Common.{◌≡◌, ℕ, List, length, Option, Some, None, Ok, Err, ap, subst}
use Rattle.hv_tree.specs.declared.place.Place.{Place}
use Rattle.hv_tree.specs.declared.refusal.Refusal.{Refusal}
use Rattle.hv_tree.specs.declared.ast.Tree.{Tree}
use Rattle.hv_tree.specs.Tokens.{Tokens}
use Rattle.hv_tree.specs.Core.{core_tree}
use Rattle.hv_token.specs.Lexes.{Lexes}
use Rattle.hv_token.proofs.Only.{only_one}
use Rattle.hv_parse.specs.Answers.{IsParsed, IsRefused}
use Rattle.hv_parse.proofs.Once.{refused_once, refused_or_parsed}
use Rattle.hv_check.specs.Checks.{IsRead, IsUnread, judged_phases, IsJudged, IsAccepted, IsFirst, unread, judged, Checks, Reads}
use Rattle.hv_check.specs.declared.phases.CheckEnd.{CheckEnd}
use Rattle.hv_check.specs.declared.phases.CheckEnd.TheVariants as end
use Rattle.hv_check.proofs.FirstOnce.{first_of_once}

-- ---- as far as the tokens and the grammar go

abbrev end_of : List ℕ → Place
end_of bytes = record { start = length bytes }

pub parsed_reads : (bytes : List ℕ) (tokens : Tokens) (stop : Option Refusal) (tree : Tree) → Lexes bytes tokens stop → IsParsed tokens stop tree → IsRead bytes tree
parsed_reads bytes tokens stop tree l p = record { tokens = tokens; lexes = subst (λ o. Lexes bytes tokens o) p.whole l; parsed = subst (λ o. IsParsed tokens o tree) p.whole p }

pub refused_unread : (bytes : List ℕ) (tokens : Tokens) (stop : Option Refusal) (at : Place) (r : Refusal) → Lexes bytes tokens stop → at.start ≡ length bytes → IsRefused tokens stop at r → IsUnread bytes r
refused_unread bytes tokens stop at r l e h =
    let same : at ≡ end_of bytes = ap (λ n. record { start = n }) e in
    record { tokens = tokens; stop = stop; lexes = l; refused = subst (λ p. IsRefused tokens stop p r) same h }

moved : (bytes : List ℕ) (r : Refusal) (f : IsUnread bytes r) (ts : Tokens) (stop : Option Refusal) → Lexes bytes ts stop → IsRefused ts stop (end_of bytes) r
moved bytes r f ts stop l =
    let s = only_one bytes ts f.tokens stop f.stop l f.lexes in
    subst (λ o. IsRefused ts o (end_of bytes) r) s.1 (subst (λ ts. IsRefused ts f.stop (end_of bytes) r) s.0 f.refused)

unread_once : (bytes : List ℕ) (r s : Refusal) → IsUnread bytes r → IsUnread bytes s → s ≡ r
unread_once bytes r s a b = refused_once a.tokens a.stop (end_of bytes) r s a.refused (moved bytes s b a.tokens a.stop a.lexes)

pub read_once : (bytes : List ℕ) (t u : Tree) → IsRead bytes t → IsRead bytes u → u ≡ t
read_once bytes t u a b = let s = only_one bytes a.tokens b.tokens None None a.lexes b.lexes in a.parsed.only u (subst (λ ts. IsParsed ts None u) s.0 b.parsed).spells

not_read : (bytes : List ℕ) (r : Refusal) (t : Tree) → IsUnread bytes r → IsRead bytes t → ⊥
not_read bytes r t f a = refused_or_parsed a.tokens None (end_of bytes) r t (moved bytes r f a.tokens None a.lexes) a.parsed

-- ---- of accepted programs and of first refusals there is one

-- what is judged of one program that is read is judged of each
judged_once : (bytes : List ℕ) (t u : Tree) (v w : Option Refusal) → IsRead bytes t → IsRead bytes u → IsJudged t v → IsJudged u w → w ≡ v
judged_once bytes t u v w a b h k = first_of_once judged_phases (core_tree t) v w h (subst (λ t. IsJudged t w) (read_once bytes t u a b) k)

pub first_once : (bytes : List ℕ) (r s : Refusal) → IsFirst bytes r → IsFirst bytes s → s ≡ r
first_once bytes r s (unread f) (unread g) = unread_once bytes r s f g
first_once bytes r s (unread f) (judged u b k) = absurd (not_read bytes r u f b)
first_once bytes r s (judged t a h) (unread g) = absurd (not_read bytes s t g a)
first_once bytes r s (judged t a h) (judged u b k) = let e : Some s ≡ Some r = judged_once bytes t u (Some r) (Some s) a b h k in cc

pub accepted_once : (bytes : List ℕ) (t u : Tree) → IsAccepted bytes t → IsAccepted bytes u → u ≡ t
accepted_once bytes t u a b = read_once bytes t u a.read b.read

pub not_both : (bytes : List ℕ) (r : Refusal) (t : Tree) → IsFirst bytes r → IsAccepted bytes t → ⊥
not_both bytes r t (unread f) a = not_read bytes r t f a.read
not_both bytes r t (judged u b k) a = let e : Some r ≡ None = judged_once bytes t u None (Some r) a.read b a.obeys k in cc

-- ---- answers

pub accepted_checks : (bytes : List ℕ) (tree : Tree) → IsAccepted bytes tree → Checks bytes (Ok tree)
accepted_checks bytes tree a = (a, λ other b. accepted_once bytes tree other a b, λ r f. not_both bytes r tree f a)

pub first_checks : (bytes : List ℕ) (r : Refusal) → IsFirst bytes r → Checks bytes (Err (end.Refused r))
first_checks bytes r f = (f, λ other g. first_once bytes r other f g, λ tree a. not_both bytes r tree f a)

pub unread_checks : (bytes : List ℕ) (e : CheckEnd) → Reads bytes (Err e) → Checks bytes (Err e)
unread_checks bytes (end.Refused r) h = first_checks bytes r (unread h)
unread_checks bytes end.NoMemory h = tt
