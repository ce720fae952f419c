-- Static paths: what of a place is known before the program runs.
use Rattle.std.specs.Prelude.{ℕ, List, [], ◌∷◌, Option, Some, None}
use Rattle.hv_tree.specs.declared.types.Name.{Name}
use Rattle.hv_tree.specs.Core.{Core, CoreExpr, Number, Truth, Path, Calls, Awaits, Array, Filled, Count, Lambda, Prefix, Chain, CoreSteps, NoSteps, FieldStep, IndexStep}
use Rattle.hv_decls.specs.declared.path.StaticStep.{StaticStep}
use Rattle.hv_decls.specs.declared.path.StaticStep.TheVariants as static
use Rattle.hv_decls.specs.Types.{ValueType, FieldAt, field_of, element_of}

-- an index that is a number literal is a literal step, any other an Any step
abbrev pub index_step : CoreExpr → StaticStep
index_step (Number at z) = static.Literal z
index_step (Truth at b) = static.Any
index_step (Path at root steps) = static.Any
index_step (Calls at call) = static.Any
index_step (Awaits at name) = static.Any
index_step (Array at xs) = static.Any
index_step (Filled at len value) = static.Any
index_step (Count at root steps) = static.Any
index_step (Lambda at captures params result body) = static.Any
index_step (Prefix at o x) = static.Any
index_step (Chain at first links) = static.Any

-- the field of something of this type
abbrev pub field_at : Core → Option ValueType → Name → Option FieldAt
field_at tree None name = None
field_at tree (Some t) name = field_of tree t name.text

-- the elements of something of this type
abbrev pub element_at : Option ValueType → Option ValueType
element_at None = None
element_at (Some t) = element_of t

-- the type of a field
abbrev pub type_at : Option FieldAt → Option ValueType
type_at None = None
type_at (Some f) = Some f.ty

-- 0 stands where no struct has the field, which the rules of types refuse
abbrev pub number_at : Option FieldAt → ℕ
number_at None = 0
number_at (Some f) = f.number

-- the steps behind something of this type
abbrev pub static_steps : Core → Option ValueType → CoreSteps → List StaticStep
static_steps tree t NoSteps = []
static_steps tree t (FieldStep name rest) = static.Field (number_at (field_at tree t name)) ∷ static_steps tree (type_at (field_at tree t name)) rest
static_steps tree t (IndexStep at x rest) = index_step x ∷ static_steps tree (element_at t) rest

-- the type that the steps lead to
abbrev pub type_behind : Core → Option ValueType → CoreSteps → Option ValueType
type_behind tree t NoSteps = t
type_behind tree t (FieldStep name rest) = type_behind tree (type_at (field_at tree t name)) rest
type_behind tree t (IndexStep at x rest) = type_behind tree (element_at t) rest
