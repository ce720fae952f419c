-- The tree of a value, by its variant.
use Rattle.std.proofs.Common.{◌≡◌, ℕ, ℤ, Bool, List, refl, sym, ap, ◌∙◌}
use Rattle.hv_value.specs.declared.value.Value.{Value, out-Value}
use Rattle.hv_value.specs.declared.value.Value.TheOpen.{Value-F}
use Rattle.hv_value.specs.declared.value.Value.TheViews.{the_lemmas}
use Rattle.hv_value.specs.declared.value.Value.TheVariants as value
use Rattle.hv_value.specs.declared.value.Value.TheFolds.{fold_out-Value}
use Rattle.hv_value.specs.declared.value.PathStep.TheVariants.{Field, At}
use Rattle.hv_value.specs.ValueTree.{ValueTree, Number, Truth, Fields, Elements, Closure, tree_of, trees_of, tree_step}
use Rattle.hv_value.specs.Places.{change_nth, change_part}

opened_int : (z : ℤ) → out-Value (value.Int z) ≡ Value-F.Int z
opened_int z = search the_lemmas

opened_bool : (b : Bool) → out-Value (value.Bool b) ≡ Value-F.Bool b
opened_bool b = search the_lemmas

opened_struct : (parts : List Value) → out-Value (value.Struct parts) ≡ Value-F.Struct parts
opened_struct parts = search the_lemmas

opened_array : (parts : List Value) → out-Value (value.Array parts) ≡ Value-F.Array parts
opened_array parts = search the_lemmas

opened_fun : (f : ℕ) (captures : List Value) → out-Value (value.Fun f captures) ≡ Value-F.Fun f captures
opened_fun f captures = search the_lemmas

pub tree-int : (z : ℤ) → tree_of (value.Int z) ≡ Number z
tree-int z = fold_out-Value ValueTree tree_step (value.Int z) ∙ rw opened_int refl

pub tree-bool : (b : Bool) → tree_of (value.Bool b) ≡ Truth b
tree-bool b = fold_out-Value ValueTree tree_step (value.Bool b) ∙ rw opened_bool refl

pub tree-struct : (parts : List Value) → tree_of (value.Struct parts) ≡ Fields (trees_of parts)
tree-struct parts = fold_out-Value ValueTree tree_step (value.Struct parts) ∙ rw opened_struct refl

pub tree-array : (parts : List Value) → tree_of (value.Array parts) ≡ Elements (trees_of parts)
tree-array parts = fold_out-Value ValueTree tree_step (value.Array parts) ∙ rw opened_array refl

pub tree-fun : (f : ℕ) (captures : List Value) → tree_of (value.Fun f captures) ≡ Closure f (trees_of captures)
tree-fun f captures = fold_out-Value ValueTree tree_step (value.Fun f captures) ∙ rw opened_fun refl

-- a struct with a field changed, and an array with an element changed
pub struct_changed : (u w : Value) (ps qs rs : List Value) (k : ℕ) (f : ValueTree → ValueTree) → w ≡ value.Struct qs → u ≡ value.Struct ps → rs ≡ ps → trees_of qs ≡ change_nth (trees_of rs) k f → tree_of w ≡ change_part (tree_of u) (Field k) f
struct_changed u w ps qs rs k f e g i h =
    ap tree_of e ∙ tree-struct qs ∙ ap Fields h
    ∙ sym (ap (λ t. change_part t (Field k) f) (ap tree_of g ∙ ap (λ ps. tree_of (value.Struct ps)) (sym i) ∙ tree-struct rs))

pub array_changed : (u w : Value) (ps qs rs : List Value) (k : ℕ) (f : ValueTree → ValueTree) → w ≡ value.Array qs → u ≡ value.Array ps → rs ≡ ps → trees_of qs ≡ change_nth (trees_of rs) k f → tree_of w ≡ change_part (tree_of u) (At k) f
array_changed u w ps qs rs k f e g i h =
    ap tree_of e ∙ tree-array qs ∙ ap Elements h
    ∙ sym (ap (λ t. change_part t (At k) f) (ap tree_of g ∙ ap (λ ps. tree_of (value.Array ps)) (sym i) ∙ tree-array rs))

-- one equation for each variant, for other crates
pub ruleset tree_variants = (tree-int, tree-bool, tree-struct, tree-array, tree-fun)
