-- A type is a leaf whatever its depth, or a struct of the program.
use Rattle.std.proofs.Common.{◌≡◌, ◌⊎◌, inl, inr, ℕ, zero, suc, List, [], ◌∷◌, map, Option, Some, None, option_map, refl, sym, ap, subst, ◌∙◌}
use Rattle.std.proofs.lemmas.Option.{slice_get-map}
use Rattle.std.specs.List.{slice_get}
use Rattle.hv_tree.specs.Core.{Core, CoreStruct}
use Rattle.hv_decls.specs.Types.{ValueType, ParamTypes, IntType, BoolType, StructType, ArrayType, FunType, FunToType, type_of_field, fields_or_none, struct_in, TypeShape, LeafShape, StructShape, NoShapes, shapes_of, shape}
use Rattle.hv_scope.specs.Tops.{structs_in, struct_number}
use Rattle.hv_init_cells.specs.Plain.{size, span, none_there}
use Rattle.hv_init_leaves.specs.Table.{number_of, row_of, table_of}
use Rattle.hv_init_leaves.proofs.Numbers.{Numbered, numbers}

-- one leaf, with nothing under any field
pub record IsLeafShape (s : TypeShape) : Type 0 where
  pub one : size s ≡ 1
  pub whole : span s [] ≡ record { from = 0; count = 1 }
  pub nothing : (f : ℕ) (fs : List ℕ) → span s (f ∷ fs) ≡ none_there

pub record IsLeafType (tree : Core) (t : ValueType) : Type 0 where
  pub no_number : number_of tree t ≡ None
  pub leaf : (d : ℕ) → IsLeafShape (shape tree d t)

pub record IsStructType (tree : Core) (t : ValueType) : Type 0 where
  pub number : ℕ
  pub fields : List ValueType
  pub numbered : number_of tree t ≡ Some number
  pub row : slice_get (table_of tree) number ≡ Some (map (number_of tree) fields)
  pub shaped : (d : ℕ) → shape tree (suc d) t ≡ StructShape (shapes_of (map (shape tree d) fields))

leaf_shape : IsLeafShape LeafShape
leaf_shape = record { one = refl; whole = refl; nothing = λ f fs. refl }

bare_shape : IsLeafShape (StructShape NoShapes)
bare_shape = record { one = refl; whole = refl; nothing = λ f fs. refl }

module _ (tree : Core) where
  abbrev Kind : ValueType → Type 0
  Kind t = IsLeafType tree t ⊎ IsStructType tree t

  unknown_leaf : (s : List ℕ) → struct_in tree.decls s ≡ None → (d : ℕ) → IsLeafShape (shape tree d (StructType s))
  unknown_leaf s e zero = leaf_shape
  unknown_leaf s e (suc d) = subst (λ (o : Option CoreStruct). IsLeafShape (StructShape (shapes_of (map (shape tree d) (map type_of_field (fields_or_none o)))))) (sym e) bare_shape

  struct_kind : (s : List ℕ) → ((struct_in tree.decls s ≡ None) × (struct_number tree.decls s ≡ None)) ⊎ Numbered tree.decls s → Kind (StructType s)
  struct_kind s (inl (e, f)) = inl (record { no_number = f; leaf = unknown_leaf s e })
  struct_kind s (inr r) =
      inr (
      record {
        number = r.number;
        fields = map type_of_field r.struct.fields;
        numbered = r.numbered;
        row = slice_get-map (row_of tree) (structs_in tree.decls) r.number ∙ ap (option_map (row_of tree)) r.there;
        shaped = λ d. ap (λ o. StructShape (shapes_of (map (shape tree d) (map type_of_field (fields_or_none o))))) r.named;
      }
      )

  int_leaf : (d : ℕ) → IsLeafShape (shape tree d IntType)
  int_leaf zero = leaf_shape
  int_leaf (suc d) = leaf_shape

  bool_leaf : (d : ℕ) → IsLeafShape (shape tree d BoolType)
  bool_leaf zero = leaf_shape
  bool_leaf (suc d) = leaf_shape

  array_leaf : (t : ValueType) (d : ℕ) → IsLeafShape (shape tree d (ArrayType t))
  array_leaf t zero = leaf_shape
  array_leaf t (suc d) = leaf_shape

  fun_leaf : (ps : ParamTypes) (d : ℕ) → IsLeafShape (shape tree d (FunType ps))
  fun_leaf ps zero = leaf_shape
  fun_leaf ps (suc d) = leaf_shape

  fun_to_leaf : (ps : ParamTypes) (t : ValueType) (d : ℕ) → IsLeafShape (shape tree d (FunToType ps t))
  fun_to_leaf ps t zero = leaf_shape
  fun_to_leaf ps t (suc d) = leaf_shape

  pub kind : (t : ValueType) → Kind t
  kind IntType = inl (record { no_number = refl; leaf = int_leaf })
  kind BoolType = inl (record { no_number = refl; leaf = bool_leaf })
  kind (StructType s) = struct_kind s (numbers tree.decls s)
  kind (ArrayType t) = inl (record { no_number = refl; leaf = array_leaf t })
  kind (FunType ps) = inl (record { no_number = refl; leaf = fun_leaf ps })
  kind (FunToType ps t) = inl (record { no_number = refl; leaf = fun_to_leaf ps t })
