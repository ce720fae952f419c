-- Holes of a type, by its variant and depth.
use Rattle.std.proofs.Common.{◌≡◌, ◌<◌, ◌-◌, ◌≤◌, ℕ, zero, suc, List, [], ◌∷◌, map, Option, Some, None, arith, refl, sym, ap, ◌∙◌}
use Rattle.hv_tree.specs.declared.place.Place.{Place}
use Rattle.hv_tree.specs.declared.types.Name.{Name}
use Rattle.hv_tree.specs.declared.types.Ty.{Ty, out-Ty}
use Rattle.hv_tree.specs.declared.types.Ty.TheVariants as ty
use Rattle.hv_tree.specs.declared.types.Ty.TheOpen.{Ty-F}
use Rattle.hv_tree.specs.declared.types.Ty.TheViews.{the_lemmas}
use Rattle.hv_tree.specs.declared.ast.Field.{Field}
use Rattle.hv_tree.specs.declared.ast.StructDecl.{StructDecl}
use Rattle.hv_tree.specs.Core.{Core, CoreTy, CoreStruct, core_ty, core_field}
use Rattle.hv_tree.proofs.CoreLemmas as lemmas
use Rattle.hv_decls.specs.Types.{ValueType, meant, shape, shapes_of, TypeShape, LeafShape, StructShape, struct_in, fields_or_none, field_types, type_of_field}
use Rattle.hv_value.specs.ValueTree.{ValueTree, Hole, Fields, Cons, row}
use Rattle.hv_value.specs.Holes.{fields_or_hole}
use Rattle.hv_sem_copying.specs.Places.{hollow, hollows}
use Rattle.hv_scope.specs.Known.{core_struct}
use Rattle.hv_partial.specs.declared.tree.Held.{Held}
use Rattle.hv_partial.specs.declared.tree.Held.TheVariants as held
use Rattle.hv_partial.specs.HeldTree.{held_tree, held_trees}
use Rattle.hv_partial.proofs.VariantLemmas.{tree-hole, tree-struct}
use Rattle.hv_eval_blocks.specs.Hollows.{hollow_in, hollow_field}

-- ---- structs

pub struct_hole : (parts : List Held) → parts ≡ [] → held_tree held.Hole ≡ fields_or_hole (row (map held_tree parts))
struct_hole parts e = tree-hole ∙ sym (ap (λ (hs : List Held). fields_or_hole (row (map held_tree hs))) e)

pub struct_some : (parts : List Held) → ((parts ≡ []) → ⊥) → held_tree (held.Struct parts) ≡ fields_or_hole (row (map held_tree parts))
struct_some [] h = absurd (h refl)
struct_some (p ∷ parts) h = tree-struct (p ∷ parts)

pub ruleset by_parts = (struct_hole, struct_some)

-- ---- types

hollows_row : (tree : Core) (n : ℕ) (fields : List Field) → hollows (shapes_of (map (shape tree n) (map type_of_field (map core_field fields)))) ≡ row (map (hollow_field tree n) fields)
unfolding hollow_in
hollows_row tree n [] = refl
hollows_row tree n (f ∷ fields) = ap (λ ts. Cons (hollow_field tree n f) ts) (hollows_row tree n fields)

unfoldable pub hollow_fields : Core → ℕ → Option CoreStruct → ValueTree
hollow_fields tree n s = fields_or_hole (hollows (shapes_of (map (shape tree n) (map type_of_field (fields_or_none s)))))

unfoldable pub hollow_by : Core → ℕ → Ty-F Ty → ValueTree
hollow_by tree n (Ty-F.Int at) = Hole
hollow_by tree n (Ty-F.Bool at) = Hole
hollow_by tree n (Ty-F.Named name) = hollow_fields tree n (struct_in tree.decls name.text)
hollow_by tree n (Ty-F.Array at t) = Hole
hollow_by tree n (Ty-F.Fun at params result) = Hole

abbrev at_depth : Core → ℕ → CoreTy → ValueTree
at_depth tree n t = hollow (shape tree n (meant t))

one_in : (tree : Core) (n : ℕ) (t : Ty) (u : Ty-F Ty) → out-Ty t ≡ u → hollow_in tree (suc n) t ≡ hollow_by tree n u
unfolding hollow_in hollow_by hollow_fields
one_in tree n t (Ty-F.Int at) e = ap (at_depth tree (suc n)) (lemmas.written_int t at e)
one_in tree n t (Ty-F.Bool at) e = ap (at_depth tree (suc n)) (lemmas.written_bool t at e)
one_in tree n t (Ty-F.Named name) e = ap (at_depth tree (suc n)) (lemmas.written_named t name e)
one_in tree n t (Ty-F.Array at element) e = ap (at_depth tree (suc n)) (lemmas.written_array t at element e)
one_in tree n t (Ty-F.Fun at params None) e = ap (at_depth tree (suc n)) (lemmas.written_fun t at params e)
one_in tree n t (Ty-F.Fun at params (Some r)) e = ap (at_depth tree (suc n)) (lemmas.written_fun_to t at params r e)

pub hollow_opened : (tree : Core) (n : ℕ) (t : Ty) → 0 < n → hollow_in tree n t ≡ hollow_by tree (n - 1) (out-Ty t)
hollow_opened tree n t h =
    let e : n ≡ suc (n - 1) = omega arith in
    ap (λ m. hollow_in tree m t) e ∙ one_in tree (n - 1) t (out-Ty t) refl

pub hollow_zero : (tree : Core) (n : ℕ) (t : Ty) → n ≡ 0 → held_tree held.Hole ≡ hollow_in tree n t
unfolding hollow_in
hollow_zero tree n t e = tree-hole ∙ sym (ap (λ m. hollow_in tree m t) e)

named : (tree : Core) (n : ℕ) (t : Ty) (name : Name) → 0 < n → t ≡ ty.Named name → hollow_in tree n t ≡ hollow_fields tree (n - 1) (struct_in tree.decls name.text)
unfolding hollow_by
named tree n t name h e = hollow_opened tree n t h ∙ ap (hollow_by tree (n - 1)) (ap out-Ty e ∙ opened name)
  where
    opened : (name : Name) → out-Ty (ty.Named name) ≡ Ty-F.Named name
    opened name = search the_lemmas

-- a struct that isn't declared has no fields
pub named_none : (tree : Core) (n : ℕ) (t : Ty) (name : Name) → 0 < n → t ≡ ty.Named name → struct_in tree.decls name.text ≡ None → held_tree held.Hole ≡ hollow_in tree n t
unfolding hollow_fields
named_none tree n t name h e f = tree-hole ∙ sym (named tree n t name h e ∙ ap (hollow_fields tree (n - 1)) f)

pub named_some : (tree : Core) (n : ℕ) (t : Ty) (name : Name) (s : StructDecl) → 0 < n → t ≡ ty.Named name → struct_in tree.decls name.text ≡ Some (core_struct s) → fields_or_hole (row (map (hollow_field tree (n - 1)) s.fields)) ≡ hollow_in tree n t
unfolding hollow_fields
named_some tree n t name s h e f = ap fields_or_hole (sym (hollows_row tree (n - 1) s.fields)) ∙ sym (named tree n t name h e ∙ ap (hollow_fields tree (n - 1)) f)

pub others : (tree : Core) (n : ℕ) (t : Ty) → 0 < n → ((name : Name) → t ≡ ty.Named name → ⊥) → held_tree held.Hole ≡ hollow_in tree n t
unfolding hollow_by
others tree n t h never = tree-hole ∙ sym (hollow_opened tree n t h ∙ go (out-Ty t) refl)
  where
    go : (u : Ty-F Ty) → out-Ty t ≡ u → hollow_by tree (n - 1) u ≡ Hole
    go (Ty-F.Int at) e = refl
    go (Ty-F.Bool at) e = refl
    go (Ty-F.Named name) e = absurd (never name (grind (arith, the_lemmas, e)))
    go (Ty-F.Array at element) e = refl
    go (Ty-F.Fun at params result) e = refl

pub ruleset by_type = (hollow_zero, named_none, others)
