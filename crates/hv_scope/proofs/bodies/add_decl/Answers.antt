use Rattle.std.proofs.Common.{map}
use Rattle.hv_scope.specs.Bodies.{body_by}
use Rattle.hv_lemmas.proofs.Lists.{nothing_added}
use Rattle.hv_scope.proofs.DeclBodies.{struct_alone}
use Rattle.hv_scope.proofs.bodies.add_decl.Goals as goal

pub returns-in-Struct : goal.returns-in-Struct
returns-in-Struct c = nothing_added (map body_by c.args.bodies.now.items) _ (struct_alone c.args.decl.now c.in-Struct.field-0 c.in-Struct.is)
