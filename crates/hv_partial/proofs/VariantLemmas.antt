-- The tree of what a local holds, by its variant.
use Rattle.std.proofs.Common.{◌≡◌, ◌≢◌, ℕ, ℤ, Bool, List, [], ◌∷◌, map, length, replicate, Some, refl, sym, ap, ◌∙◌}
use Rattle.hv_partial.specs.declared.tree.Held.{Held, out-Held}
use Rattle.hv_partial.specs.declared.tree.Held.TheOpen.{Held-F}
use Rattle.hv_partial.specs.declared.tree.Held.TheViews.{the_lemmas}
use Rattle.hv_partial.specs.declared.tree.Held.TheVariants as held
use Rattle.hv_partial.specs.declared.tree.Held.TheFolds.{fold_out-Held}
use Rattle.hv_value.specs.declared.value.PathStep.TheVariants.{Field, At}
use Rattle.hv_value.specs.ValueTree.{ValueTree, Hole, Number, Truth, Fields, Elements, Closure, row}
use Rattle.hv_partial.specs.HeldTree.{held_tree, held_trees, held_step}
use Rattle.hv_value.specs.Places.{change_nth, change_part}
use Rattle.hv_value.specs.Holes.{emptied, fields_or_hole, all_emptied}
use Rattle.hv_value.specs.Operators.{length_of, copies}
use Rattle.hv_partial.proofs.ListLemmas.{count_row, copies_row, all_emptied_row}

opened_hole : out-Held held.Hole ≡ Held-F.Hole
opened_hole = search the_lemmas

opened_int : (z : ℤ) → out-Held (held.Int z) ≡ Held-F.Int z
opened_int z = search the_lemmas

opened_bool : (b : Bool) → out-Held (held.Bool b) ≡ Held-F.Bool b
opened_bool b = search the_lemmas

opened_struct : (parts : List Held) → out-Held (held.Struct parts) ≡ Held-F.Struct parts
opened_struct parts = search the_lemmas

opened_array : (parts : List Held) → out-Held (held.Array parts) ≡ Held-F.Array parts
opened_array parts = search the_lemmas

opened_fun : (f : ℕ) (captures : List Held) → out-Held (held.Fun f captures) ≡ Held-F.Fun f captures
opened_fun f captures = search the_lemmas

pub tree-hole : held_tree held.Hole ≡ Hole
tree-hole = fold_out-Held ValueTree held_step held.Hole ∙ rw opened_hole refl

pub tree-int : (z : ℤ) → held_tree (held.Int z) ≡ Number z
tree-int z = fold_out-Held ValueTree held_step (held.Int z) ∙ rw opened_int refl

pub tree-bool : (b : Bool) → held_tree (held.Bool b) ≡ Truth b
tree-bool b = fold_out-Held ValueTree held_step (held.Bool b) ∙ rw opened_bool refl

pub tree-struct : (parts : List Held) → held_tree (held.Struct parts) ≡ Fields (held_trees parts)
tree-struct parts = fold_out-Held ValueTree held_step (held.Struct parts) ∙ rw opened_struct refl

pub tree-array : (parts : List Held) → held_tree (held.Array parts) ≡ Elements (held_trees parts)
tree-array parts = fold_out-Held ValueTree held_step (held.Array parts) ∙ rw opened_array refl

pub tree-fun : (f : ℕ) (captures : List Held) → held_tree (held.Fun f captures) ≡ Closure f (held_trees captures)
tree-fun f captures = fold_out-Held ValueTree held_step (held.Fun f captures) ∙ rw opened_fun refl

-- a struct with a field changed, and an array with an element changed
pub struct_changed : (u w : Held) (ps qs rs : List Held) (k : ℕ) (f : ValueTree → ValueTree) → w ≡ held.Struct qs → u ≡ held.Struct ps → rs ≡ ps → held_trees qs ≡ change_nth (held_trees rs) k f → held_tree w ≡ change_part (held_tree u) (Field k) f
struct_changed u w ps qs rs k f e g i h =
    ap held_tree e ∙ tree-struct qs ∙ ap Fields h
    ∙ sym (ap (λ t. change_part t (Field k) f) (ap held_tree g ∙ ap (λ ps. held_tree (held.Struct ps)) (sym i) ∙ tree-struct rs))

pub array_changed : (u w : Held) (ps qs rs : List Held) (k : ℕ) (f : ValueTree → ValueTree) → w ≡ held.Array qs → u ≡ held.Array ps → rs ≡ ps → held_trees qs ≡ change_nth (held_trees rs) k f → held_tree w ≡ change_part (held_tree u) (At k) f
array_changed u w ps qs rs k f e g i h =
    ap held_tree e ∙ tree-array qs ∙ ap Elements h
    ∙ sym (ap (λ t. change_part t (At k) f) (ap held_tree g ∙ ap (λ ps. held_tree (held.Array ps)) (sym i) ∙ tree-array rs))

-- the length of an array
pub length_held : (h : Held) (ps : List Held) → h ≡ held.Array ps → length_of (held_tree h) ≡ Some (length ps)
length_held h ps e = ap (λ x. length_of (held_tree x)) e ∙ ap length_of (tree-array ps) ∙ ap Some (count_row ps)

-- an array of copies
pub filled_held : (n : ℕ) (h : Held) (ps : List Held) → ps ≡ replicate n h → held_tree (held.Array ps) ≡ Elements (copies n (held_tree h))
filled_held n h ps e = ap (λ x. held_tree (held.Array x)) e ∙ tree-array (replicate n h) ∙ ap Elements (copies_row n h)

-- what a struct with fields leaves
pub emptied_held : (h : Held) (ps rs : List Held) → h ≡ held.Struct ps → ps ≢ [] → map held_tree rs ≡ map emptied (map held_tree ps) → held_tree (held.Struct rs) ≡ emptied (held_tree h)
emptied_held h [] rs e some k = absurd (some refl)
emptied_held h (p ∷ ps) rs e some k =
    tree-struct rs ∙ ap (λ ts. Fields (row ts)) k
    ∙ sym (ap (λ x. emptied (held_tree x)) e ∙ ap emptied (tree-struct (p ∷ ps)) ∙ ap fields_or_hole (all_emptied_row (map held_tree (p ∷ ps))))

-- one equation for each variant, for other crates
pub ruleset tree_variants = (tree-hole, tree-int, tree-bool, tree-struct, tree-array, tree-fun)
