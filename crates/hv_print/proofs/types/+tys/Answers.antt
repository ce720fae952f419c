use Rattle.std.proofs.Common.{arith}
use Rattle.std.proofs.lemmas.Grind.{common_steps}
use Rattle.hv_print.proofs.Parts.{ty_array, ty_fun}
use Rattle.hv_print.proofs.types.+tys.Goals as goal

pub push_ty-returns-in_ok-push_ty-in-Array : goal.push_ty-returns-in_ok-push_ty-in-Array
push_ty-returns-in_ok-push_ty-in-Array t c = rw (ty_array c.args.ty.now c.in-Array.field-0 c.in-Array.element c.in-Array.is) (grind (arith, common_steps))

pub push_ty-returns-in_ok-push_tys-in-Fun : goal.push_ty-returns-in_ok-push_tys-in-Fun
push_ty-returns-in_ok-push_tys-in-Fun t c = rw (ty_fun c.args.ty.now c.in-Fun.field-0 c.in-Fun.params c.in-Fun.returned c.in-Fun.is) (grind (arith, common_steps))
