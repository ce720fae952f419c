-- The locals of the blocks of an `if`.
use Rattle.std.specs.Prelude.{List, [], ◌∷◌, ◌++◌, Option, Some, None}
use Rattle.hv_tree.specs.declared.ast.Block.{Block}
use Rattle.hv_tree.specs.declared.ast.Branch.{Branch, out-Branch}
use Rattle.hv_tree.specs.Core.{core_block}
use Rattle.hv_decls.specs.Locals.{Local, in_block}

abbrev pub tests_declare : List Branch → List Local
tests_declare [] = []
tests_declare (b ∷ rest) = in_block (core_block (out-Branch b).body) ++ tests_declare rest

-- those of the last `else`
abbrev pub else_declares : Option Block → List Local
else_declares None = []
else_declares (Some b) = in_block (core_block b)
