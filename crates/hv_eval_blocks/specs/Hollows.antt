-- Holes of a type of at most some depth.
use Rattle.std.specs.Prelude.{ℕ}
use Rattle.hv_tree.specs.declared.types.Ty.{Ty}
use Rattle.hv_tree.specs.declared.ast.Field.{Field}
use Rattle.hv_tree.specs.Core.{Core, core_ty}
use Rattle.hv_decls.specs.Types.{meant, shape}
use Rattle.hv_value.specs.ValueTree.{ValueTree}
use Rattle.hv_sem_copying.specs.Places.{hollow}

unfoldable pub hollow_in : Core → ℕ → Ty → ValueTree
hollow_in tree n t = hollow (shape tree n (meant (core_ty t)))

abbrev pub hollow_field : Core → ℕ → Field → ValueTree
hollow_field tree n f = hollow_in tree n f.ty
