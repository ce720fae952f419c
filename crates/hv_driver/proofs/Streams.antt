-- Bytes that a source gave and a sink took, piece after piece.
use Rattle.std.proofs.Common.{◌≡◌, ◌≤◌, ◌+◌, ◌∙◌, ℕ, List, [], ◌++◌, Option, Some, None, refl, sym, ap, subst, inl, inr, length, take, drop, arith, append_assoc, append-nil}
use Rattle.std.proofs.lemmas.List.{take_all, take_at, length-drop}
use Rattle.std.proofs.Math.Seq.{take-add}
use Rattle.std.specs.Io.KnownBytes.{Appends, Keeps, Consumes, IsAtEnd}
use Rattle.std.specs.Prelude.{IfSome}
use Rattle.hv_ports.specs.Causes.{Rose}
use Rattle.hv_driver.specs.declared.status.Status.{Status}
use Rattle.hv_driver.specs.declared.status.Status.TheVariants.{SinkFault}
use Rattle.hv_driver.specs.Delivers.{Delivers}
use Rattle.hv_driver.specs.Took.{TakesPart, ReadsFile}

pub rose_later : (a b c : ℕ) → a ≤ b → Rose b c → Rose a c
rose_later a b c h r = omega arith

-- ---- writing

appends_more : (a b c : Option (List ℕ)) (xs ys : List ℕ) → Appends a b xs → Appends b c ys → Appends a c (xs ++ ys)
appends_more None b c xs ys h k = tt
appends_more (Some a) None c xs ys h k = absurd h
appends_more (Some a) (Some b) None xs ys h k = absurd k
appends_more (Some a) (Some b) (Some c) xs ys h k = k ∙ ap (λ l. l ++ ys) h ∙ append_assoc a xs ys

appends_keeps : (a b c : Option (List ℕ)) (xs : List ℕ) → Appends a b xs → Keeps b c → Appends a c xs
appends_keeps None b c xs h k = tt
appends_keeps (Some a) None c xs h k = absurd h
appends_keeps (Some a) (Some b) None xs h k = absurd k
appends_keeps (Some a) (Some b) (Some c) xs h k = k ∙ h

appends_none : (a : Option (List ℕ)) → Appends a a []
appends_none None = tt
appends_none (Some a) = sym (append-nil a)

pub record Written (text : List ℕ) (at : ℕ) (before now : Option (List ℕ)) (faults then_ : ℕ) : Type 0 where
  pub bytes : Appends before now (take at text)
  pub later : faults ≤ then_
  pub within : at ≤ length text

pub written_none : (text : List ℕ) (o : Option (List ℕ)) (f : ℕ) → Written text 0 o o f f
written_none text o f = record { bytes = appends_none o; later = omega arith; within = omega arith }

pub written_more : (text : List ℕ) (at n : ℕ) (piece : List ℕ) (a b c : Option (List ℕ)) (e f g : ℕ) → Written text at a b e f → piece ≡ drop at text → n ≤ length piece → Appends b c (take n piece) → f ≤ g → Written text (at + n) a c e g
written_more text at n piece a b c e f g w is fits h l =
    let len = length-drop at text in
    let m = ap length is in
    let t = w.within in
    record {
      bytes = subst (λ bs. Appends a c bs) (sym (take-add at n text))
          (appends_more a b c (take at text) (take n (drop at text)) w.bytes (subst (λ p. Appends b c (take n p)) is h));
      later = let m = w.later in omega arith;
      within = omega arith;
    }

pub written_all : (text : List ℕ) (at : ℕ) (a b : Option (List ℕ)) (e f : ℕ) (status : Status) → Written text at a b e f → length text ≤ at → Delivers status status text a b e f
written_all text at a b e f status w full = inl (refl, subst (λ t. Appends a b t) (take_all at text full) w.bytes)

pub written_cut : (text : List ℕ) (at : ℕ) (a b c : Option (List ℕ)) (e f g : ℕ) (status : Status) → Written text at a b e f → Keeps b c → Rose f g → Delivers status SinkFault text a c e g
written_cut text at a b c e f g status w k r = inr (refl, rose_later e f g w.later r, at, appends_keeps a b c (take at text) w.bytes k)

-- ---- reading

consumes_more : (a b c : Option (List ℕ)) (xs ys : List ℕ) → Consumes a b xs → Consumes b c ys → Consumes a c (xs ++ ys)
consumes_more None b c xs ys h k = tt
consumes_more (Some a) None c xs ys h k = absurd h
consumes_more (Some a) (Some b) None xs ys h k = absurd k
consumes_more (Some a) (Some b) (Some c) xs ys h k = h ∙ ap (λ l. xs ++ l) k ∙ sym (append_assoc xs ys c)

consumes_none : (a : Option (List ℕ)) → Consumes a a []
consumes_none None = tt
consumes_none (Some a) = refl

pub record HasRead (left now : Option (List ℕ)) (bytes : List ℕ) (faults then_ : ℕ) (asked_for still : Option (List ℕ)) : Type 0 where
  pub moved : Consumes left now bytes
  pub later : faults ≤ then_
  pub asked : still ≡ asked_for
  pub small : length bytes ≤ 1048577

pub read_nothing : (left : Option (List ℕ)) (f : ℕ) (asked : Option (List ℕ)) → HasRead left left [] f f asked asked
read_nothing left f asked = record { moved = consumes_none left; later = omega arith; asked = refl; small = omega arith }

pub read_more : (a b c : Option (List ℕ)) (before after : List ℕ) (e f g n : ℕ) (p q r : Option (List ℕ)) → HasRead a b before e f p q → TakesPart b c before after n → f ≤ g → r ≡ q → length after ≤ 1048577 → HasRead a c after e g p r
read_more a b c before after e f g n p q r h t l k s = record {
  moved = subst (λ bs. Consumes a c bs) (sym t.1) (consumes_more a b c before t.0 h.moved t.3);
  later = let m = h.later in omega arith;
  asked = k ∙ h.asked;
  small = s;
}

-- all were read, or as many as are wanted
read_whole : (a b : Option (List ℕ)) (bytes : List ℕ) → Consumes a b bytes → IsAtEnd b → length bytes ≤ 1048577 → IfSome a (λ all. bytes ≡ take 1048577 all)
read_whole None b bytes h e s = tt
read_whole (Some a) None bytes h e s = absurd h
read_whole (Some a) (Some b) bytes h e s =
    let same : a ≡ bytes = h ∙ ap (λ l. bytes ++ l) e ∙ append-nil bytes in
    ap (λ l. l) (sym (ap (take 1048577) same ∙ take_all 1048577 bytes s))

pub read_end : (a b : Option (List ℕ)) (bytes : List ℕ) (e f : ℕ) (p q : Option (List ℕ)) → HasRead a b bytes e f p q → IsAtEnd b → ReadsFile a b bytes
read_end a b bytes e f p q h at = record { moved = h.moved; first = read_whole a b bytes h.moved at h.small; few = h.small }

read_limit : (a b : Option (List ℕ)) (bytes : List ℕ) → Consumes a b bytes → length bytes ≡ 1048577 → IfSome a (λ all. bytes ≡ take 1048577 all)
read_limit None b bytes h s = tt
read_limit (Some a) None bytes h s = absurd h
read_limit (Some a) (Some b) bytes h s = sym (ap (take 1048577) h ∙ take_at bytes b 1048577 s)

pub read_full : (a b : Option (List ℕ)) (bytes : List ℕ) (e f : ℕ) (p q : Option (List ℕ)) → HasRead a b bytes e f p q → 1048577 ≤ length bytes → ReadsFile a b bytes
read_full a b bytes e f p q h full = let s = h.small in record { moved = h.moved; first = read_limit a b bytes h.moved (omega arith); few = s }

moved_kept : (a b c : Option (List ℕ)) (bytes : List ℕ) → Keeps a b → Consumes b c bytes → Consumes a c bytes
moved_kept None b c bytes k h = tt
moved_kept (Some a) None c bytes k h = absurd k
moved_kept (Some a) (Some b) None bytes k h = absurd h
moved_kept (Some a) (Some b) (Some c) bytes k h = sym k ∙ h

first_kept : (a b : Option (List ℕ)) (bytes : List ℕ) → Keeps a b → IfSome b (λ all. bytes ≡ take 1048577 all) → IfSome a (λ all. bytes ≡ take 1048577 all)
first_kept None b bytes k h = tt
first_kept (Some a) None bytes k h = absurd k
first_kept (Some a) (Some b) bytes k h = h ∙ ap (take 1048577) k

pub read_kept : (a b c : Option (List ℕ)) (bytes : List ℕ) → Keeps a b → ReadsFile b c bytes → ReadsFile a c bytes
read_kept a b c bytes k h = record { moved = moved_kept a b c bytes k h.moved; first = first_kept a b bytes k h.first; few = h.few }
