-- The bodies of a program as the code knows them.
use Rattle.std.specs.Prelude.{ℕ, List, map, Option, Some, None}
use Rattle.std.specs.Borrow.{Bor}
use Rattle.hv_decls.specs.Locals.{Local, CoreBody, locals_of}
use Rattle.hv_tree.specs.Core.{end_of}
use Rattle.hv_scope.specs.Known.{local_by}
use Rattle.hv_scope.specs.Bodies.{body_by}
use Rattle.hv_eval_env.specs.declared.scoped.Scoped.{Scoped}

-- a body that may lack
abbrev pub option_body : Option (Bor Scoped) → Option CoreBody
option_body None = None
option_body (Some s) = Some (body_by s.now.body)

-- ---- inside

abbrev pub with_locals : CoreBody → CoreBody × List Local
with_locals b = (b, locals_of b)

abbrev pub scoped_by : Scoped → CoreBody × List Local
scoped_by s = (body_by s.body, map local_by s.locals)

-- where its block ends
abbrev pub end_place : CoreBody → ℕ
end_place b = (end_of b.block).start
