-- No event of an expression is an end.
use Rattle.std.specs.Prelude.{⊤}
use Rattle.std.proofs.Common.{◌≡◌, ◌⊎◌, inr, ◌++◌, ℕ, suc, Bool, true, false, if◌then◌else◌, List, [], ◌∷◌, Option, Some, None, refl, ap, ◌∙◌}
use Rattle.hv_tree.specs.declared.place.Place.{Place}
use Rattle.hv_tree.specs.declared.types.Name.{Name}
use Rattle.hv_tree.specs.declared.types.Conv.{Conv}
use Rattle.hv_tree.specs.declared.types.Conv.TheVariants as conv
use Rattle.hv_tree.specs.Core.{Core, CoreExpr, Number, Truth, Path, Calls, Awaits, Array, Filled, Count, Lambda, Prefix, Chain, CoreExprs, NoExprs, ExprOf, CoreLinks, NoLinks, LinkOf, CoreSteps, NoSteps, FieldStep, IndexStep, CoreCall, CallOf, CoreArgs, NoArgs, ValueArg, RefArg}
use Rattle.hv_decls.specs.declared.path.StaticPath.{StaticPath}
use Rattle.hv_rules.specs.declared.event.FlowEvent.TheVariants as event
use Rattle.hv_rules.specs.Flow.{Skip, Do, Stop, Then, Either, Loop}
use Rattle.hv_decls.specs.Locals.{LocalKind, Captured, Passed, VarBound, LetBound, InoutBound, Handle, Local, number_in, value_of}
use Rattle.hv_rules.specs.Events as events
use Rattle.hv_decls.specs.Statics as statics
use Rattle.hv_rules.specs.Rules.{back_at, handles_at, missing_at}
use Rattle.hv_flow_ends.specs.Ends.{is_end, if_end, ends_in}

-- the mark is no end, and nothing ends there
abbrev pub IsPlain : events.Mark → Type 0
IsPlain m = (is_end m.event ≡ false) × (back_at m.belongs ≡ []) × (handles_at m.belongs ≡ []) × (missing_at m.belongs ≡ false)

-- nothing ends but at ends
abbrev pub IsTidy : events.Mark → Type 0
IsTidy m = (is_end m.event ≡ true) ⊎ IsPlain m

-- each mark of the flow is so
abbrev pub Each : (events.Mark → Type 0) → events.Events → Type 0
Each Is Skip = ⊤
Each Is (Do m) = Is m
Each Is (Stop m) = Is m
Each Is (Then a b) = Each Is a × Each Is b
Each Is (Either a b) = Each Is a × Each Is b
Each Is (Loop a) = Each Is a

no_end : (m : events.Mark) → IsPlain m → if_end m ≡ []
no_end m p = ap (λ b. if b then m.belongs ∷ [] else []) p.0

none_of_both : (xs ys : List events.Belongs) → xs ≡ [] → ys ≡ [] → xs ++ ys ≡ []
none_of_both xs ys e f = ap (λ l. l ++ ys) e ∙ f

-- a flow of plain marks has no ends
pub no_ends : (f : events.Events) → Each IsPlain f → ends_in f ≡ []
no_ends Skip h = refl
no_ends (Do m) h = no_end m h
no_ends (Stop m) h = no_end m h
no_ends (Then a b) h = none_of_both (ends_in a) (ends_in b) (no_ends a h.0) (no_ends b h.1)
no_ends (Either a b) h = none_of_both (ends_in a) (ends_in b) (no_ends a h.0) (no_ends b h.1)
no_ends (Loop a) h = no_ends a h

pub all_tidy : (f : events.Events) → Each IsPlain f → Each IsTidy f
all_tidy Skip h = tt
all_tidy (Do m) h = inr h
all_tidy (Stop m) h = inr h
all_tidy (Then a b) h = (all_tidy a h.0, all_tidy b h.1)
all_tidy (Either a b) h = (all_tidy a h.0, all_tidy b h.1)
all_tidy (Loop a) h = all_tidy a h

-- what is done with a place is no end
abbrev Does : events.Doing → Type 0
Does does = (p : StaticPath) (at : Place) → IsPlain (does p at)

pub uses : Does events.uses
uses p at = (refl, refl, refl, refl)

moves : Does events.moves
moves p at = (refl, refl, refl, refl)

pub inits : Does events.inits
inits p at = (refl, refl, refl, refl)

reads : Does events.reads
reads p at = (refl, refl, refl, refl)

writes : Does events.writes
writes p at = (refl, refl, refl, refl)

sets : Does events.sets
sets p at = (refl, refl, refl, refl)

given : (w : events.Way) (c : Option Conv) → Does (events.given w c)
given events.ByCall (Some conv.Let) = reads
given events.BySpawn (Some conv.Let) = uses
given events.ByCall (Some conv.Sink) = moves
given events.BySpawn (Some conv.Sink) = moves
given events.ByCall (Some conv.Inout) = uses
given events.BySpawn (Some conv.Inout) = uses
given events.ByCall (Some conv.Set) = uses
given events.BySpawn (Some conv.Set) = uses
given events.ByCall None = uses
given events.BySpawn None = uses

lent : (c : Option Conv) → Does (events.lent c)
lent (Some conv.Set) = sets
lent (Some conv.Let) = writes
lent (Some conv.Inout) = writes
lent (Some conv.Sink) = writes
lent None = writes

closed : (w : events.Way) (b : Bool) (at : Place) (f : events.Events) → Each IsPlain f → Each IsPlain (events.with_close w b at f)
closed events.ByCall false at f h = h
closed events.BySpawn false at f h = h
closed events.ByCall true at f h = (h, (refl, refl, refl, refl))
closed events.BySpawn true at f h = ((refl, refl, refl, refl), h)

pub declared : (n : ℕ) (name : Name) → Each IsPlain (events.declared n name)
declared n name = ((refl, refl, refl, refl), (refl, refl, refl, refl))

chosen : (b : Bool) (f : events.Events) → Each IsPlain f → Each IsPlain (if b then Either Skip f else f)
chosen true f h = (tt, h)
chosen false f h = h

module _ (tree : Core) (locals : List Local) where
  rooted : (does : events.Doing) (o : Option ℕ) (root : Name) (steps : CoreSteps) → Does does → Each IsPlain (events.on_root tree locals does o root steps)
  rooted does None root steps d = tt
  rooted does (Some n) root steps d = d (record { root = n; steps = statics.static_steps tree (value_of (events.local_of tree locals root)) steps }) root.place

  pub awaited : (o : Option ℕ) (at : Place) → Each IsPlain (events.on_handle tree locals event.Await o at)
  awaited None at = tt
  awaited (Some h) at = (refl, refl, refl, refl)

  pub captured : (names : List Name) → Each IsPlain (events.captured tree locals names)
  captured [] = tt
  captured (name ∷ names) = (rooted events.uses (number_in locals name.text) name NoSteps uses, captured names)

  mutual
    pub expr : (does : events.Doing) (x : CoreExpr) → Does does → Each IsPlain (events.expr_events tree locals does x)
    expr does (Number at z) d = tt
    expr does (Truth at b) d = tt
    expr does (Path at root steps) d = (indices steps, rooted does (number_in locals root.text) root steps d)
    expr does (Calls at c) d = call events.ByCall c
    expr does (Awaits at name) d = awaited (number_in locals name.text) at
    expr does (Array at xs) d = parts xs
    expr does (Filled at len value) d = (expr events.uses len uses, expr events.uses value uses)
    expr does (Count at root steps) d = (indices steps, rooted events.uses (number_in locals root.text) root steps uses)
    expr does (Lambda at captures params result body) d = captured captures
    expr does (Prefix at o x) d = expr events.uses x uses
    expr does (Chain at first rest) d = (expr events.uses first uses, links rest)

    parts : (xs : CoreExprs) → Each IsPlain (events.part_events tree locals xs)
    parts NoExprs = tt
    parts (ExprOf x rest) = (expr events.uses x uses, parts rest)

    links : (ls : CoreLinks) → Each IsPlain (events.link_events tree locals ls)
    links NoLinks = tt
    links (LinkOf o at x rest) = chosen (events.is_short o) (Then (events.expr_events tree locals events.uses x) (events.link_events tree locals rest)) (expr events.uses x uses, links rest)

    pub indices : (steps : CoreSteps) → Each IsPlain (events.index_events tree locals steps)
    indices NoSteps = tt
    indices (FieldStep name rest) = indices rest
    indices (IndexStep at x rest) = (expr events.uses x uses, indices rest)

    pub call : (w : events.Way) (c : CoreCall) → Each IsPlain (events.call_events tree locals w c)
    call w (CallOf root steps at xs) = ((indices steps, rooted events.uses (number_in locals root.text) root steps uses), args w at (events.callee_of tree locals root steps) xs)

    args : (w : events.Way) (at : Place) (callee : events.Callee) (xs : CoreArgs) → Each IsPlain (events.arg_events tree locals w at callee xs)
    args w at callee NoArgs = tt
    args w at callee (ValueArg x rest) = (
      expr (events.given w (events.next_conv callee)) x (given w (events.next_conv callee)),
      closed w (events.opens_place tree locals w (events.next_conv callee) x) at (events.arg_events tree locals w at (events.other_convs callee) rest) (args w at (events.other_convs callee) rest),
    )
    args w at callee (RefArg mark root steps rest) = (
      (indices steps, rooted (events.lent (events.next_conv callee)) (number_in locals root.text) root steps (lent (events.next_conv callee))),
      closed w (events.is_local tree locals (number_in locals root.text)) at (events.arg_events tree locals w at (events.other_convs callee) rest) (args w at (events.other_convs callee) rest),
    )

  pub place : (does : events.Doing) (root : Name) (steps : CoreSteps) → Does does → Each IsPlain (events.place_events tree locals does root steps)
  place does root steps d = (indices steps, rooted does (number_in locals root.text) root steps d)

entry_kind : (n : ℕ) (k : LocalKind) (name : Name) → Each IsPlain (events.entry_event n k name)
entry_kind n (Passed conv.Set) name = (refl, refl, refl, refl)
entry_kind n (Passed conv.Let) name = declared n name
entry_kind n (Passed conv.Inout) name = declared n name
entry_kind n (Passed conv.Sink) name = declared n name
entry_kind n Captured name = declared n name
entry_kind n VarBound name = declared n name
entry_kind n LetBound name = declared n name
entry_kind n InoutBound name = declared n name
entry_kind n Handle name = declared n name

pub entries : (n : ℕ) (ls : List Local) → Each IsPlain (events.entry_events n ls)
entries n [] = tt
entries n (l ∷ ls) = (entry_kind n l.kind l.name, entries (suc n) ls)
