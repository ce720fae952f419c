-- Structs by their names and by their numbers.
use Rattle.std.proofs.Common.{◌≡◌, ◌⊎◌, inl, inr, ◌+◌, ℕ, suc, Bool, true, false, if◌then◌else◌, List, [], ◌∷◌, Option, Some, None, refl, ap, ◌∙◌, arith}
use Rattle.std.specs.List.{slice_get}
use Rattle.std.specs.Str.{bytes_eq}
use Rattle.hv_tree.specs.Core.{CoreDecl, StructOf, FunOf, CoreStruct}
use Rattle.hv_decls.specs.Types.{struct_in}
use Rattle.hv_scope.specs.Tops.{structs_in, struct_number, struct_from}

-- the struct with a name, and its number
pub record Numbered (decls : List CoreDecl) (text : List ℕ) : Type 0 where
  pub struct : CoreStruct
  pub number : ℕ
  pub named : struct_in decls text ≡ Some struct
  pub numbered : struct_number decls text ≡ Some number
  pub there : slice_get (structs_in decls) number ≡ Some struct

-- the first struct with the name
abbrev first_in : List CoreStruct → List ℕ → Option CoreStruct
first_in [] text = None
first_in (s ∷ ss) text = if bytes_eq s.name.text text then Some s else first_in ss text

first_by : (b : Bool) (s : CoreStruct) (o p : Option CoreStruct) → o ≡ p → (if b then Some s else o) ≡ (if b then Some s else p)
first_by b s o p e = ap (λ q. if b then Some s else q) e

in_structs : (decls : List CoreDecl) (text : List ℕ) → struct_in decls text ≡ first_in (structs_in decls) text
in_structs [] text = refl
in_structs (StructOf s ∷ rest) text = first_by (bytes_eq s.name.text text) s (struct_in rest text) (first_in (structs_in rest) text) (in_structs rest text)
in_structs (FunOf f ∷ rest) text = in_structs rest text

-- the same with numbers that are counted from k
record From (k : ℕ) (ss : List CoreStruct) (text : List ℕ) : Type 0 where
  struct : CoreStruct
  place : ℕ
  named : first_in ss text ≡ Some struct
  numbered : struct_from k ss text ≡ Some (k + place)
  there : slice_get ss place ≡ Some struct

abbrev Nowhere : ℕ → List CoreStruct → List ℕ → Type 0
Nowhere k ss text = (first_in ss text ≡ None) × (struct_from k ss text ≡ None)

from_by : (k : ℕ) (s : CoreStruct) (ss : List CoreStruct) (text : List ℕ) (b : Bool) → bytes_eq s.name.text text ≡ b → Nowhere (suc k) ss text ⊎ From (suc k) ss text → Nowhere k (s ∷ ss) text ⊎ From k (s ∷ ss) text
from_by k s ss text true e r =
    inr (
    record {
      struct = s;
      place = 0;
      named = ap (λ b. if b then Some s else first_in ss text) e;
      numbered = ap (λ b. if b then Some k else struct_from (suc k) ss text) e ∙ ap Some (let f : k ≡ k + 0 = omega arith in f);
      there = refl;
    }
    )
from_by k s ss text false e (inl (n, m)) = inl (ap (λ b. if b then Some s else first_in ss text) e ∙ n, ap (λ b. if b then Some k else struct_from (suc k) ss text) e ∙ m)
from_by k s ss text false e (inr r) =
    inr (
    record {
      struct = r.struct;
      place = suc r.place;
      named = ap (λ b. if b then Some s else first_in ss text) e ∙ r.named;
      numbered = ap (λ b. if b then Some k else struct_from (suc k) ss text) e ∙ r.numbered ∙ ap Some (let f : suc k + r.place ≡ k + suc r.place = omega arith in f);
      there = r.there;
    }
    )

from : (k : ℕ) (ss : List CoreStruct) (text : List ℕ) → Nowhere k ss text ⊎ From k ss text
from k [] text = inl (refl, refl)
from k (s ∷ ss) text = from_by k s ss text (bytes_eq s.name.text text) refl (from (suc k) ss text)

pub numbers : (decls : List CoreDecl) (text : List ℕ) → ((struct_in decls text ≡ None) × (struct_number decls text ≡ None)) ⊎ Numbered decls text
numbers decls text = by (from 0 (structs_in decls) text)
  where
    by : Nowhere 0 (structs_in decls) text ⊎ From 0 (structs_in decls) text → ((struct_in decls text ≡ None) × (struct_number decls text ≡ None)) ⊎ Numbered decls text
    by (inl (n, m)) = inl (in_structs decls text ∙ n, m)
    by (inr r) = inr (record { struct = r.struct; number = r.place; named = in_structs decls text ∙ r.named; numbered = r.numbered ∙ ap Some (let e : 0 + r.place ≡ r.place = omega arith in e); there = r.there })
