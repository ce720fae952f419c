-- The structs and functions of a program, in order.
use Rattle.std.specs.Prelude.{ℕ, suc, if◌then◌else◌, List, [], ◌∷◌, Option, Some, None, map}
use Rattle.std.specs.Str.{bytes_eq}
use Rattle.std.specs.List.{slice_get}
use Rattle.hv_tree.specs.declared.ast.Decl.{Decl}
use Rattle.hv_tree.specs.declared.ast.Decl.TheVariants as decl
use Rattle.hv_tree.specs.declared.ast.Field.{Field}
use Rattle.hv_tree.specs.declared.ast.FunDecl.{FunDecl}
use Rattle.hv_tree.specs.declared.ast.StructDecl.{StructDecl}
use Rattle.hv_tree.specs.Core.{CoreDecl, StructOf, FunOf, CoreStruct}

-- all structs
abbrev pub struct_decls : List Decl → List StructDecl
struct_decls [] = []
struct_decls (decl.Struct s ∷ rest) = s ∷ struct_decls rest
struct_decls (decl.Fun f ∷ rest) = struct_decls rest

-- all functions
abbrev pub fun_decls : List Decl → List FunDecl
fun_decls [] = []
fun_decls (decl.Struct s ∷ rest) = fun_decls rest
fun_decls (decl.Fun f ∷ rest) = f ∷ fun_decls rest

abbrev pub name_of_struct : StructDecl → List ℕ
name_of_struct s = s.name.text

abbrev pub name_of_fun : FunDecl → List ℕ
name_of_fun f = f.name.text

abbrev pub field_text : Field → List ℕ
field_text f = f.name.text

-- the names of a struct's fields
abbrev pub field_texts : StructDecl → List (List ℕ)
field_texts s = map field_text s.fields

-- the fields of a struct that may lack
abbrev pub fields_of : Option StructDecl → List Field
fields_of None = []
fields_of (Some s) = s.fields

-- those of the struct with this number
abbrev pub fields_at : ℕ → List StructDecl → List Field
fields_at k ss = fields_of (slice_get ss k)

-- the first one with the text
abbrev pub first_by : {A : Type 0} → (A → List ℕ) → List A → List ℕ → Option A
first_by t [] text = None
first_by t (x ∷ xs) text = if bytes_eq (t x) text then Some x else first_by t xs text

-- ---- over the plain form

-- all structs
abbrev pub structs_in : List CoreDecl → List CoreStruct
structs_in [] = []
structs_in (StructOf s ∷ rest) = s ∷ structs_in rest
structs_in (FunOf f ∷ rest) = structs_in rest

-- the number of the first one with the name, counted from n
abbrev pub struct_from : ℕ → List CoreStruct → List ℕ → Option ℕ
struct_from n [] text = None
struct_from n (s ∷ ss) text = if bytes_eq s.name.text text then Some n else struct_from (suc n) ss text

-- the number of a struct among all structs
abbrev pub struct_number : List CoreDecl → List ℕ → Option ℕ
struct_number decls text = struct_from 0 (structs_in decls) text
