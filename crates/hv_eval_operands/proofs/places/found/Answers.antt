use Rattle.std.proofs.Common.{◌≡◌, rules, refl, sym, subst}
use Rattle.std.specs.Option.{option_copied}
use Rattle.hv_sem_copying.specs.Run.{◌>>=◌}
use Rattle.hv_sem_copying.specs.Places.{type_of}
use Rattle.hv_sem_flat.specs.Accesses.{look}
use Rattle.hv_scope.specs.Known.{typed}
use Rattle.hv_partial.specs.Ways.{links_of}
use Rattle.hv_eval_state.specs.Gives.{Gives}
use Rattle.hv_eval_state.specs.Spots.{spot_of}
use Rattle.hv_eval_env.specs.Level.{locals_in}
use Rattle.hv_eval_operands.specs.Links.{links_in}
use Rattle.hv_eval_operands.specs.Places.{found_in}
use Rattle.hv_eval_operands.proofs.PlaceLemmas.{root_found}
use Rattle.hv_eval_operands.proofs.Runs.{goes, ends}
use Rattle.hv_eval_operands.proofs.places.found.Goals as goal

pub returns-in_err-links : goal.returns-in_err-links
returns-in_err-links g c =
    let l = c.args.parts.now.level in
    let known = typed (option_copied c.value_type.result) in
    let is : type_of (locals_in l) c.args.root.now ≡ known = search rules in
    ends (links_in l known c.args.steps.now) (look c.in-Some.number) (found_in l c.args.root.now c.args.steps.now) (links_in l known c.args.steps.now >>= look c.in-Some.number) c.args.used c.args.task.now c.args.task.now c.links.new.task
    (root_found l c.args.root.now c.args.steps.now c.in-Some.number known c.args.used c.args.task.now (search rules) is) refl
    spot_of c.in_err-links.field-0.0 c.from_residual.result (search rules) c.in_err-links.ensures

pub returns : goal.returns
returns g c =
    let l = c.args.parts.now.level in
    let known = typed (option_copied c.value_type.result) in
    let is : type_of (locals_in l) c.args.root.now ≡ known = search rules in
    subst (λ r. Gives spot_of r c.look.result c.links.new.task)
    (sym (goes (links_in l known c.args.steps.now) (look c.in-Some.number) (found_in l c.args.root.now c.args.steps.now) (links_in l known c.args.steps.now >>= look c.in-Some.number) c.args.used c.args.task.now c.args.task.now c.links.new.task
    (root_found l c.args.root.now c.args.steps.now c.in-Some.number known c.args.used c.args.task.now (search rules) is) refl (links_of c.in_ok-links.links) c.in_ok-links.ensures))
    (search rules)
