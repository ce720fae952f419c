-- The structs that the table says have functions in them are those whose values have function values in them.
use Rattle.std.proofs.Common.{◌≡◌, ◌⊎◌, inl, inr, ℕ, suc, Bool, true, false, if◌then◌else◌, List, [], ◌∷◌, map, Option, Some, None, is_some, Contains, subst, refl, sym, ap, ◌∙◌}
use Rattle.std.specs.List.{slice_get}
use Rattle.std.specs.Str.{bytes_eq}
use Rattle.std.proofs.lemmas.Slice.Eq.{bytes_eq-Decides}
use Rattle.std.proofs.lemmas.Bool.Decides.{Decides-eqb}
use Rattle.hv_tree.specs.Core.{Core, CoreStruct}
use Rattle.hv_decls.specs.Types.{ValueType, IntType, BoolType, StructType, ArrayType, FunType, FunToType, type_of_field, field_types, fields_or_none, struct_in}
use Rattle.hv_type_rules.specs.TypeRules.{HoldsFunction, is_fun, is_fun_to, in_element, in_field}
use Rattle.hv_scope.specs.Tops.{structs_in, struct_number}
use Rattle.hv_symbols.specs.Texts.{index_from, index_of, has}
use Rattle.hv_types.specs.declared.fields.FieldType.{FieldType}
use Rattle.hv_types.specs.declared.fields.FieldBase.{FieldBase}
use Rattle.hv_types.specs.declared.fields.FieldBase.TheVariants as base
use Rattle.hv_types.specs.Table as table
use Rattle.hv_types.specs.Table.{HoldsAt, at_once, through, row_at, table_of, row_of, entry_of}
use Rattle.hv_types.specs.Holders.{AreHolders}
use Rattle.hv_types.specs.Structs as spec
use Rattle.hv_types.proofs.Numbers.{Numbered, numbers, kept}
use Rattle.hv_lemmas.proofs.Members.{Among, in_left, in_right, either_in, listed, contained}

-- ---- lists

mapped : {A B : Type 0} (f : A → B) (xs : List A) (x : A) → Among xs x → Among (map f xs) (f x)
mapped f [] x h = absurd h
mapped f (y ∷ xs) x (inl e) = inl (ap f e)
mapped f (y ∷ xs) x (inr h) = inr (mapped f xs x h)

unmapped : {A B : Type 0} (f : A → B) (xs : List A) (b : B) → Among (map f xs) b → (x : A) × Among xs x × (f x ≡ b)
unmapped f [] b h = absurd h
unmapped f (y ∷ xs) b (inl e) = (y, inl refl, e)
unmapped f (y ∷ xs) b (inr h) = let u = unmapped f xs b h in (u.0, inr u.1, u.2)

-- ---- from types to the table

-- what the base of a field has in it
abbrev HoldsBase : Core → FieldBase → Type 0
HoldsBase tree base.Plain = ⊥
HoldsBase tree base.Function = Unit {0}
HoldsBase tree (base.Struct i) = HoldsAt (table_of tree) i

module _ (tree : Core) where
  row_known : (s : List ℕ) (r : Numbered tree.decls s) → row_at (table_of tree) r.number ≡ map (entry_of tree) (map type_of_field r.struct.fields)
  row_known s r = kept (row_of tree) (structs_in tree.decls) r.number r.struct [] r.there

  -- a field of the struct, in its row
  in_row : (s : List ℕ) (r : Numbered tree.decls s) (field : ValueType) → Contains (field_types tree s) field → Contains (row_at (table_of tree) r.number) (entry_of tree field)
  in_row s r field c =
      let e : field_types tree s ≡ map type_of_field r.struct.fields = ap (λ o. map type_of_field (fields_or_none o)) r.named in
      let d : Among (map type_of_field r.struct.fields) field = listed (map type_of_field r.struct.fields) field (rw (← e) c) in
      rw (row_known s r) (contained (map (entry_of tree) (map type_of_field r.struct.fields)) (entry_of tree field) (mapped (entry_of tree) (map type_of_field r.struct.fields) field d))

  no_fields : (s : List ℕ) (field : ValueType) → struct_in tree.decls s ≡ None → Contains (field_types tree s) field → ⊥
  no_fields s field e c =
      let f : field_types tree s ≡ [] = ap (λ o. map type_of_field (fields_or_none o)) e in
      let d : Among (field_types tree s) field = listed (field_types tree s) field c in
      subst (λ (xs : List ValueType). Among xs field) f d

  holds_at : (i : ℕ) (t : FieldType) (b : FieldBase) → t.base ≡ b → Contains (row_at (table_of tree) i) t → HoldsBase tree b → HoldsAt (table_of tree) i
  holds_at i t base.Plain e c h = absurd h
  holds_at i t base.Function e c h = at_once i t c e
  holds_at i t (base.Struct j) e c h = through i t j c e h

  struct_base : (s : List ℕ) (field : ValueType) → Contains (field_types tree s) field → HoldsBase tree (entry_of tree field).base → HoldsBase tree (table.by_number (struct_number tree.decls s)).base
  struct_base s field c h = by (numbers tree.decls s)
    where
      by : ((struct_in tree.decls s ≡ None) × (struct_number tree.decls s ≡ None)) ⊎ Numbered tree.decls s → HoldsBase tree (table.by_number (struct_number tree.decls s)).base
      by (inl (e, f)) = absurd (no_fields s field e c)
      by (inr r) = rw r.numbered (holds_at r.number (entry_of tree field) (entry_of tree field).base refl (in_row s r field c) h)

  to_base : (t : ValueType) → HoldsFunction tree t → HoldsBase tree (entry_of tree t).base
  to_base t (is_fun params e) = rw e tt
  to_base t (is_fun_to params result e) = rw e tt
  to_base t (in_element element e more) = rw e (to_base element more)
  to_base t (in_field s field e c more) = rw e (struct_base s field c (to_base field more))

  -- ---- from the table to types

  no_function : (o : Option ℕ) → (table.by_number o).base ≡ base.Function → ⊥
  no_function None e = cc
  no_function (Some i) e = cc

  function_in : (t : ValueType) → (entry_of tree t).base ≡ base.Function → HoldsFunction tree t
  function_in IntType e = cc
  function_in BoolType e = cc
  function_in (StructType s) e = absurd (no_function (struct_number tree.decls s) e)
  function_in (ArrayType t) e = in_element t refl (function_in t e)
  function_in (FunType params) e = is_fun params refl
  function_in (FunToType params t) e = is_fun_to params t refl

  the_number : (o : Option ℕ) (j : ℕ) → (table.by_number o).base ≡ base.Struct j → o ≡ Some j
  the_number None j e = cc
  the_number (Some i) j e = let f : i ≡ j = cc in ap Some f

  struct_inside : (j : ℕ) → ((s : List ℕ) → struct_number tree.decls s ≡ Some j → HoldsFunction tree (StructType s)) → (t : ValueType) → (entry_of tree t).base ≡ base.Struct j → HoldsFunction tree t
  struct_inside j h IntType e = cc
  struct_inside j h BoolType e = cc
  struct_inside j h (StructType s) e = h s (the_number (struct_number tree.decls s) j e)
  struct_inside j h (ArrayType t) e = in_element t refl (struct_inside j h t e)
  struct_inside j h (FunType params) e = cc
  struct_inside j h (FunToType params t) e = cc

  some_same : (i j : ℕ) → Some i ≡ Some j → i ≡ j
  some_same i j e = cc

  -- the field that an entry stands for
  field_of_entry : (i : ℕ) (t : FieldType) (s : List ℕ) → struct_number tree.decls s ≡ Some i → Contains (row_at (table_of tree) i) t → (u : ValueType) × Contains (field_types tree s) u × (entry_of tree u ≡ t)
  field_of_entry i t s n c = by (numbers tree.decls s)
    where
      by : ((struct_in tree.decls s ≡ None) × (struct_number tree.decls s ≡ None)) ⊎ Numbered tree.decls s → (u : ValueType) × Contains (field_types tree s) u × (entry_of tree u ≡ t)
      by (inl (e, f)) = let g : None ≡ Some i = sym f ∙ n in cc
      by (inr r) =
          let same : r.number ≡ i = some_same r.number i (sym r.numbered ∙ n) in
          let e : row_at (table_of tree) i ≡ map (entry_of tree) (map type_of_field r.struct.fields) = ap (row_at (table_of tree)) (sym same) ∙ row_known s r in
          let a : Among (map (entry_of tree) (map type_of_field r.struct.fields)) t = listed (map (entry_of tree) (map type_of_field r.struct.fields)) t (rw (← e) c) in
          let u = unmapped (entry_of tree) (map type_of_field r.struct.fields) t a in
          let f : field_types tree s ≡ map type_of_field r.struct.fields = ap (λ o. map type_of_field (fields_or_none o)) r.named in
          (u.0, rw f (contained (map type_of_field r.struct.fields) u.0 u.1), u.2)

  from_table : (i : ℕ) → HoldsAt (table_of tree) i → (s : List ℕ) → struct_number tree.decls s ≡ Some i → HoldsFunction tree (StructType s)
  from_table i (at_once k t c e) s n =
      let u = field_of_entry k t s n c in
      in_field s u.0 refl u.1 (function_in u.0 (ap (λ (v : FieldType). v.base) u.2 ∙ e))
  from_table i (through k t j c e h) s n =
      let u = field_of_entry k t s n c in
      in_field s u.0 refl u.1 (struct_inside j (from_table j h) u.0 (ap (λ (v : FieldType). v.base) u.2 ∙ e))

  -- ---- names

  has_by : (b : Bool) (n : ℕ) (t : List ℕ) (ts : List (List ℕ)) (text : List ℕ) → bytes_eq text t ≡ b → (is_some (index_from (suc n) ts text) ≡ true → Among ts text) →
      is_some (if b then Some n else index_from (suc n) ts text) ≡ true → Among (t ∷ ts) text
  has_by true n t ts text e f h = inl (sym ((bytes_eq-Decides text t).0 e))
  has_by false n t ts text e f h = inr (f h)

  has_from : (n : ℕ) (ts : List (List ℕ)) (text : List ℕ) → is_some (index_from n ts text) ≡ true → Among ts text
  has_from n [] text h = cc
  has_from n (t ∷ ts) text h = has_by (bytes_eq text t) n t ts text refl (has_from (suc n) ts text) h

  some_if : (b : Bool) (n : ℕ) (o : Option ℕ) → (b ≡ false → is_some o ≡ true) → is_some (if b then Some n else o) ≡ true
  some_if true n o f = refl
  some_if false n o f = f refl

  from_has : (n : ℕ) (ts : List (List ℕ)) (text : List ℕ) → Among ts text → is_some (index_from n ts text) ≡ true
  from_has n [] text h = absurd h
  from_has n (t ∷ ts) text (inl e) = some_if (bytes_eq text t) n (index_from (suc n) ts text) (λ f. let g : true ≡ false = sym ((bytes_eq-Decides text t).1 (sym e)) ∙ f in cc)
  from_has n (t ∷ ts) text (inr h) = some_if (bytes_eq text t) n (index_from (suc n) ts text) (λ f. from_has (suc n) ts text h)

  is_there : (ts : List (List ℕ)) (text : List ℕ) → has ts text ≡ true → Among ts text
  unfolding index_of
  is_there ts text h = has_from 0 ts text h

  there_is : (ts : List (List ℕ)) (text : List ℕ) → Among ts text → has ts text ≡ true
  unfolding index_of
  there_is ts text h = from_has 0 ts text h

  number_is : (o : Option ℕ) (i : ℕ) → spec.is_number o i ≡ true → o ≡ Some i
  number_is None i e = cc
  number_is (Some j) i e = ap Some ((Decides-eqb j i).0 e)

  is_number : (o : Option ℕ) (i : ℕ) → o ≡ Some i → spec.is_number o i ≡ true
  is_number o i e = rw e ((Decides-eqb i i).1 refl)

  -- a name that is listed is that of a struct with one of the numbers
  name_right : (i : ℕ) (o : Option CoreStruct) (s : List ℕ) → Among (spec.name_of tree i o) s → struct_number tree.decls s ≡ Some i
  name_right i None s h = absurd h
  name_right i (Some c) s h = by (spec.is_number (struct_number tree.decls c.name.text) i) refl h
    where
      by : (b : Bool) → spec.is_number (struct_number tree.decls c.name.text) i ≡ b → Among (if b then c.name.text ∷ [] else []) s → struct_number tree.decls s ≡ Some i
      by true e (inl f) = ap (struct_number tree.decls) (sym f) ∙ number_is (struct_number tree.decls c.name.text) i e
      by true e (inr k) = absurd k
      by false e k = absurd k

  names_right : (found : List ℕ) (s : List ℕ) → Among (spec.names_of tree found) s → (i : ℕ) × Among found i × (struct_number tree.decls s ≡ Some i)
  names_right [] s h = absurd h
  names_right (i ∷ is) s h = by (either_in (spec.name_of tree i (slice_get (structs_in tree.decls) i)) (spec.names_of tree is) s h) (names_right is s)
    where
      by : Among (spec.name_of tree i (slice_get (structs_in tree.decls) i)) s ⊎ Among (spec.names_of tree is) s →
          (Among (spec.names_of tree is) s → (k : ℕ) × Among is k × (struct_number tree.decls s ≡ Some k)) → (k : ℕ) × Among (i ∷ is) k × (struct_number tree.decls s ≡ Some k)
      by (inl h) f = (i, inl refl, name_right i (slice_get (structs_in tree.decls) i) s h)
      by (inr h) f = let k = f h in (k.0, inr k.1, k.2)

  name_whole : (s : List ℕ) (r : Numbered tree.decls s) → Among (spec.name_of tree r.number (slice_get (structs_in tree.decls) r.number)) s
  name_whole s r =
      let b : spec.is_number (struct_number tree.decls r.struct.name.text) r.number ≡ true = is_number (struct_number tree.decls r.struct.name.text) r.number (ap (struct_number tree.decls) r.name ∙ r.numbered) in
      rw r.there (rw b (inl r.name))

  names_whole : (found : List ℕ) (s : List ℕ) (r : Numbered tree.decls s) → Among found r.number → Among (spec.names_of tree found) s
  names_whole [] s r h = absurd h
  names_whole (i ∷ is) s r (inl e) = in_left (spec.name_of tree i (slice_get (structs_in tree.decls) i)) (spec.names_of tree is) s (rw e (name_whole s r))
  names_whole (i ∷ is) s r (inr h) = in_right (spec.name_of tree i (slice_get (structs_in tree.decls) i)) (spec.names_of tree is) s (names_whole is s r h)

  -- the names of what the table says
  pub names_hold : (found : List ℕ) → AreHolders (table_of tree) found → spec.NamesHolders tree (spec.names_of tree found)
  names_hold found are s = (λ h. to (names_right found s (is_there (spec.names_of tree found) s h)), λ h. there_is (spec.names_of tree found) s (back (numbers tree.decls s) (to_base (StructType s) h)))
    where
      to : (i : ℕ) × Among found i × (struct_number tree.decls s ≡ Some i) → HoldsFunction tree (StructType s)
      to (i, h, n) = from_table i ((are i).0 (contained found i h)) s n

      back : ((struct_in tree.decls s ≡ None) × (struct_number tree.decls s ≡ None)) ⊎ Numbered tree.decls s → HoldsBase tree (table.by_number (struct_number tree.decls s)).base → Among (spec.names_of tree found) s
      back (inl (e, f)) h = absurd (subst (λ (o : Option ℕ). HoldsBase tree (table.by_number o).base) f h)
      back (inr r) h =
          let g = subst (λ (o : Option ℕ). HoldsBase tree (table.by_number o).base) r.numbered h in
          names_whole found s r (listed found r.number ((are r.number).1 g))

-- the same by what code has
pub names_found : (tree : Core) (rows : List (List FieldType)) (found also : List ℕ) (names : List (List ℕ)) → rows ≡ table_of tree → AreHolders rows found → also ≡ found → names ≡ spec.names_of tree also → spec.NamesHolders tree names
names_found tree rows found also names e are f g =
    subst (spec.NamesHolders tree) (ap (spec.names_of tree) (sym f) ∙ sym g) (names_hold tree found (subst (λ (r : List (List FieldType)). AreHolders r found) e are))
