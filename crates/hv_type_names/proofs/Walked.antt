-- What a walk finds is what is found at the sites, each with the locals that are visible there.
use Rattle.std.proofs.Common.{◌≡◌, ℕ, Bool, not, ◌&&◌, List, [], ◌∷◌, ◌++◌, is_some, refl, sym, ap, ◌∙◌, append_assoc}
use Rattle.hv_tree.specs.declared.types.Name.{Name}
use Rattle.hv_tree.specs.declared.refusal.Rule.TheVariants as rule
use Rattle.hv_tree.specs.declared.refusal.Refusal.{Refusal}
use Rattle.hv_tree.specs.Core.{CoreExpr, Awaits, Lambda, CoreStmt, Var, VarWith, Let, Inout, Task, AwaitsAlone}
use Rattle.hv_decls.specs.Locals.{Local, local_in}
use Rattle.hv_decls.specs.Sites.{Part, ExprPart, CallPart, PlacePart, StmtPart, TestPart, Site}
use Rattle.hv_type_names.specs.declared.program.Program.{Program}
use Rattle.hv_symbols.specs.Texts.{has}
use Rattle.hv_type_names.specs.Found as spec

-- ---- what is visible

-- a visible local has the text
abbrev pub sees : List Local → List ℕ → Bool
sees visible text = is_some (local_in visible text)

-- the texts are those of the visible locals
abbrev pub Agree : List (List ℕ) → List Local → Type 0
Agree seen visible = (text : List ℕ) → has seen text ≡ sees visible text

module _ (p : Program) where
  -- ---- what is found at a site

  abbrev pub use_at : List Local → Name → List Refusal
  use_at visible name = spec.only (not (sees visible name.text) && not (has p.tops name.text)) (spec.refusal rule.N2 name.place)

  abbrev pub capture_at : List Local → Name → List Refusal
  capture_at visible name = spec.only (not (sees visible name.text)) (spec.refusal rule.N2 name.place)

  abbrev pub captures_at : List Local → List Name → List Refusal
  captures_at visible [] = []
  captures_at visible (n ∷ ns) = capture_at visible n ++ captures_at visible ns

  abbrev pub expr_at : List Local → CoreExpr → List Refusal
  expr_at visible (Awaits at name) = use_at visible name
  expr_at visible (Lambda at captures params result body) =
      (spec.params_found p params ++ (spec.option_ty_found p result ++ captures_at visible captures)) ++ spec.declared_found p captures params body
  expr_at visible _ = []

  abbrev pub stmt_at : List Local → CoreStmt → List Refusal
  stmt_at visible (Var at name t) = spec.ty_found p t
  stmt_at visible (VarWith at name t x) = spec.ty_found p t
  stmt_at visible (Let at name t x) = spec.ty_found p t
  stmt_at visible (Inout at name t root steps) = spec.ty_found p t
  stmt_at visible (Task at name t spawn budget call) = spec.option_ty_found p t
  stmt_at visible (AwaitsAlone at name) = use_at visible name
  stmt_at visible _ = []

  abbrev pub part_at : List Local → Part → List Refusal
  part_at visible (ExprPart x) = expr_at visible x
  part_at visible (CallPart call) = []
  part_at visible (PlacePart root steps) = use_at visible root
  part_at visible (StmtPart x) = stmt_at visible x
  part_at visible (TestPart x) = []

  abbrev pub sites_at : List Site → List Refusal
  sites_at [] = []
  sites_at (w ∷ ws) = part_at w.scope.visible w.part ++ sites_at ws

  pub sites_append : (a b : List Site) → sites_at (a ++ b) ≡ sites_at a ++ sites_at b
  sites_append [] b = refl
  sites_append (w ∷ a) b = ap (λ l. part_at w.scope.visible w.part ++ l) (sites_append a b) ∙ sym (append_assoc (part_at w.scope.visible w.part) (sites_at a) (sites_at b))

  -- ---- scopes

  pub use_same : (seen : List (List ℕ)) (visible : List Local) (name : Name) → Agree seen visible → spec.use_found p seen name ≡ use_at visible name
  use_same seen visible name g = ap (λ b. spec.only (not b && not (has p.tops name.text)) (spec.refusal rule.N2 name.place)) (g name.text)

  pub captures_same : (seen : List (List ℕ)) (visible : List Local) (names : List Name) → Agree seen visible → spec.captures_found seen names ≡ captures_at visible names
  captures_same seen visible [] g = refl
  captures_same seen visible (n ∷ ns) g =
      ap (λ b. spec.only (not b) (spec.refusal rule.N2 n.place) ++ spec.captures_found seen ns) (g n.text)
      ∙ ap (λ l. capture_at visible n ++ l) (captures_same seen visible ns g)

  -- two pieces that are the same
  pub both : (a b c d : List Refusal) → a ≡ c → b ≡ d → a ++ b ≡ c ++ d
  both a b c d e f = ap (λ l. l ++ b) e ∙ ap (λ l. c ++ l) f

  -- a piece, and the sites behind it
  pub joined : (a b : List Refusal) (ws vs : List Site) → a ≡ sites_at ws → b ≡ sites_at vs → a ++ b ≡ sites_at (ws ++ vs)
  joined a b ws vs e f = both a b (sites_at ws) (sites_at vs) e f ∙ sym (sites_append ws vs)
