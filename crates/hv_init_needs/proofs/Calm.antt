-- What holds of whatever an expression may do holds of each event of an expression; such events leave in sight what is there.
use Rattle.std.proofs.Common.{◌≡◌, ℕ, Bool, true, false, if◌then◌else◌, List, [], ◌∷◌, Option, Some, None, refl, sym, ◌∙◌, ap, subst}
use Rattle.hv_tree.specs.declared.place.Place.{Place}
use Rattle.hv_tree.specs.declared.types.Name.{Name}
use Rattle.hv_tree.specs.declared.types.Conv.{Conv}
use Rattle.hv_tree.specs.declared.types.Conv.TheVariants as conv
use Rattle.hv_tree.specs.Core.{Core, CoreExpr, Number, Truth, Path, Calls, Awaits, Array, Filled, Count, Lambda, Prefix, Chain, CoreExprs, NoExprs, ExprOf, CoreLinks, NoLinks, LinkOf, CoreSteps, NoSteps, FieldStep, IndexStep, CoreCall, CallOf, CoreArgs, NoArgs, ValueArg, RefArg}
use Rattle.hv_decls.specs.declared.path.StaticPath.{StaticPath}
use Rattle.hv_rules.specs.declared.event.FlowEvent.TheVariants as event
use Rattle.hv_rules.specs.Flow.{Skip, Do, Stop, Then, Either, Loop}
use Rattle.hv_decls.specs.Locals.{Local, number_in, value_of}
use Rattle.hv_rules.specs.Events as events
use Rattle.hv_decls.specs.Statics as statics
use Rattle.hv_flow_traces.specs.Carried.{behind, Steady}
use Rattle.hv_init_needs.specs.Sight.{sees}
use Rattle.hv_init_needs.proofs.Each.{Each}

-- ---- each event of an expression

-- it holds of what is done with any place
abbrev pub Does : (events.Mark → Type 0) → events.Doing → Type 0
Does Is does = (p : StaticPath) (at : Place) → Is (does p at)

-- it holds of whatever an expression may do by itself
pub record MayDo (Is : events.Mark → Type 0) : Type 0 where
  pub uses : Does Is events.uses
  pub moves : Does Is events.moves
  pub reads : Does Is events.reads
  pub writes : Does Is events.writes
  pub sets : Does Is events.sets
  pub closes : (at : Place) → Is (events.mark event.Close at)
  pub awaits : (h : ℕ) (at : Place) → Is (events.mark (event.Await h) at)

module _ (Is : events.Mark → Type 0) (may : MayDo Is) where
  given : (w : events.Way) (c : Option Conv) → Does Is (events.given w c)
  given events.ByCall (Some conv.Let) = may.reads
  given events.BySpawn (Some conv.Let) = may.uses
  given events.ByCall (Some conv.Sink) = may.moves
  given events.BySpawn (Some conv.Sink) = may.moves
  given events.ByCall (Some conv.Inout) = may.uses
  given events.BySpawn (Some conv.Inout) = may.uses
  given events.ByCall (Some conv.Set) = may.uses
  given events.BySpawn (Some conv.Set) = may.uses
  given events.ByCall None = may.uses
  given events.BySpawn None = may.uses

  lent : (c : Option Conv) → Does Is (events.lent c)
  lent (Some conv.Set) = may.sets
  lent (Some conv.Let) = may.writes
  lent (Some conv.Inout) = may.writes
  lent (Some conv.Sink) = may.writes
  lent None = may.writes

  closed : (w : events.Way) (b : Bool) (at : Place) (f : events.Events) → Each Is f → Each Is (events.with_close w b at f)
  closed events.ByCall false at f h = h
  closed events.BySpawn false at f h = h
  closed events.ByCall true at f h = (h, may.closes at)
  closed events.BySpawn true at f h = (may.closes at, h)

  chosen : (b : Bool) (f : events.Events) → Each Is f → Each Is (if b then Either Skip f else f)
  chosen true f h = (tt, h)
  chosen false f h = h

  module _ (tree : Core) (locals : List Local) where
    rooted : (does : events.Doing) (o : Option ℕ) (root : Name) (steps : CoreSteps) → Does Is does → Each Is (events.on_root tree locals does o root steps)
    rooted does None root steps d = tt
    rooted does (Some n) root steps d = d (record { root = n; steps = statics.static_steps tree (value_of (events.local_of tree locals root)) steps }) root.place

    on_handle : (o : Option ℕ) (at : Place) → Each Is (events.on_handle tree locals event.Await o at)
    on_handle None at = tt
    on_handle (Some h) at = may.awaits h at

    pub awaited : (name : Name) (at : Place) → Each Is (events.awaited tree locals name at)
    awaited name at = on_handle (number_in locals name.text) at

    pub captured : (names : List Name) → Each Is (events.captured tree locals names)
    captured [] = tt
    captured (name ∷ names) = (rooted events.uses (number_in locals name.text) name NoSteps may.uses, captured names)

    mutual
      pub expr : (does : events.Doing) (x : CoreExpr) → Does Is does → Each Is (events.expr_events tree locals does x)
      expr does (Number at z) d = tt
      expr does (Truth at b) d = tt
      expr does (Path at root steps) d = (indices steps, rooted does (number_in locals root.text) root steps d)
      expr does (Calls at c) d = call events.ByCall c
      expr does (Awaits at name) d = awaited name at
      expr does (Array at xs) d = parts xs
      expr does (Filled at len value) d = (expr events.uses len may.uses, expr events.uses value may.uses)
      expr does (Count at root steps) d = (indices steps, rooted events.uses (number_in locals root.text) root steps may.uses)
      expr does (Lambda at captures params result body) d = captured captures
      expr does (Prefix at o x) d = expr events.uses x may.uses
      expr does (Chain at first rest) d = (expr events.uses first may.uses, links rest)

      pub parts : (xs : CoreExprs) → Each Is (events.part_events tree locals xs)
      parts NoExprs = tt
      parts (ExprOf x rest) = (expr events.uses x may.uses, parts rest)

      pub links : (ls : CoreLinks) → Each Is (events.link_events tree locals ls)
      links NoLinks = tt
      links (LinkOf o at x rest) = chosen (events.is_short o) (Then (events.expr_events tree locals events.uses x) (events.link_events tree locals rest)) (expr events.uses x may.uses, links rest)

      pub indices : (steps : CoreSteps) → Each Is (events.index_events tree locals steps)
      indices NoSteps = tt
      indices (FieldStep name rest) = indices rest
      indices (IndexStep at x rest) = (expr events.uses x may.uses, indices rest)

      pub call : (w : events.Way) (c : CoreCall) → Each Is (events.call_events tree locals w c)
      call w (CallOf root steps at xs) =
          ((indices steps, rooted events.uses (number_in locals root.text) root steps may.uses), args w at (events.callee_of tree locals root steps) xs)

      pub args : (w : events.Way) (at : Place) (callee : events.Callee) (xs : CoreArgs) → Each Is (events.arg_events tree locals w at callee xs)
      args w at callee NoArgs = tt
      args w at callee (ValueArg x rest) = (
        expr (events.given w (events.next_conv callee)) x (given w (events.next_conv callee)),
        closed w (events.opens_place tree locals w (events.next_conv callee) x) at (events.arg_events tree locals w at (events.other_convs callee) rest) (args w at (events.other_convs callee) rest),
      )
      args w at callee (RefArg mark root steps rest) = (
        (indices steps, rooted (events.lent (events.next_conv callee)) (number_in locals root.text) root steps (lent (events.next_conv callee))),
        closed w (events.is_local tree locals (number_in locals root.text)) at (events.arg_events tree locals w at (events.other_convs callee) rest) (args w at (events.other_convs callee) rest),
      )

    pub value : (x : CoreExpr) → Each Is (events.value_events tree locals x)
    value x = expr events.uses x may.uses

    pub place : (does : events.Doing) (root : Name) (steps : CoreSteps) → Does Is does → Each Is (events.place_events tree locals does root steps)
    place does root steps d = (indices steps, rooted does (number_in locals root.text) root steps d)

-- ---- what is in sight stays

-- the mark leaves in sight what is there
abbrev pub IsCalm : events.Mark → Type 0
IsCalm m = (ks : List ℕ) → sees m ks ≡ ks

-- so does the flow, whatever run is taken
abbrev pub Calm : events.Events → Type 0
Calm f = (ks : List ℕ) → Steady sees f ks × (behind sees f ks ≡ ks)

pub calm_then : (a b : events.Events) → Calm a → Calm b → Calm (Then a b)
calm_then a b h g ks =
    let p = h ks in
    let q = g ks in
    ((p.0, subst (λ z. Steady sees b z) (sym p.1) q.0), ap (behind sees b) p.1 ∙ q.1)

pub calm : (f : events.Events) → Each IsCalm f → Calm f
calm Skip h ks = (tt, refl)
calm (Do m) h ks = (tt, h ks)
calm (Stop m) h ks = (tt, h ks)
calm (Then a b) h ks = calm_then a b (calm a h.0) (calm b h.1) ks
calm (Either a b) h ks =
    let p = calm a h.0 ks in
    let q = calm b h.1 ks in
    ((p.0, p.1, q.0, q.1), refl)
calm (Loop a) h ks = (calm a h ks, refl)

pub calm_inits : Does IsCalm events.inits
calm_inits p at ks = refl

pub may_calm : MayDo IsCalm
may_calm = record {
  uses = λ p at ks. refl;
  moves = λ p at ks. refl;
  reads = λ p at ks. refl;
  writes = λ p at ks. refl;
  sets = λ p at ks. refl;
  closes = λ at ks. refl;
  awaits = λ h at ks. refl;
}
