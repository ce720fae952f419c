-- Where bodies end.
use Rattle.std.specs.Prelude.{◌≡◌, ℕ, Some}
use Rattle.std.specs.List.{slice_get}
use Rattle.hv_tree.specs.Core.{Core, end_of}
use Rattle.hv_decls.specs.Locals.{CoreBody}
use Rattle.hv_decls.specs.Sites.{bodies_of}

-- the byte at which the `}` of a body stands
abbrev pub end_start : CoreBody → ℕ
end_start body = (end_of body.block).start

-- no two bodies of the program end at one place
abbrev pub EndApart : Core → Type 0
EndApart tree = (m n : ℕ) (a b : CoreBody) → slice_get (bodies_of tree) m ≡ Some a → slice_get (bodies_of tree) n ≡ Some b → end_start a ≡ end_start b → m ≡ n
