use Rattle.std.proofs.Common.{◌≡◌, ◌++◌, map, drop}
use Rattle.hv_scope.specs.Known.{text_of}
use Rattle.hv_scope.proofs.locals.Locals.of.Given as goal

abbrev pub invariant-loop-known : goal.invariant-loop-known
invariant-loop-known l = l.names ++ map text_of (drop l.known-index l.fn.list.items) ≡ map text_of l.fn.list.items
