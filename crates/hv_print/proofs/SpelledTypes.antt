-- The tokens of a printed type spell the type, places aside.
use Rattle.std.proofs.Common.{◌≡◌, ℕ, ◌+◌, length, Bool, true, false, List, [], ◌∷◌, ◌++◌, map, Some, None, codes, refl, sym, ap, ◌∙◌, append_assoc, append-nil}
use Rattle.hv_tree.specs.declared.types.Conv.{Conv}
use Rattle.hv_tree.specs.declared.types.Conv.TheVariants as conv
use Rattle.hv_tree.specs.declared.types.Ty.{Ty}
use Rattle.hv_tree.specs.declared.types.Ty.TheVariants as ty
use Rattle.hv_tree.specs.Tokens.{Tokens, mark, keyword, word, IsConv}
use Rattle.hv_tree.specs.Tokens as tokens
use Rattle.hv_tree.specs.Types.{IsType, IsResultType, AreTypes, AreSomeTypes}
use Rattle.hv_tree.specs.Types as types
use Rattle.hv_tree.specs.Core.{CoreTy, IntTy, BoolTy, NamedTy, ArrayTy, FunTy, FunToTy, CoreTys, NoTys, TyOf, core_ty, core_tys_of}
use Rattle.hv_tree.specs.Printed.{is_fun_ty}
use Rattle.hv_tree.proofs.CoreLemmas as lemmas
use Rattle.hv_print.specs.Aside.{nowhere, ty_aside, tys_aside}
use Rattle.hv_print.specs.Pieces.{Piece, MarkOf, piece_bytes, here, placed, token_at, tokens_of, comma, grouped_pieces, conv_pieces, ty_pieces, tys_pieces}

-- the tokens spell something that is the same, places aside
pub record Reads {T C : Type 0} (Is : T → Tokens → Type 0) (seen : T → C) (read : Tokens) (want : C) : Type 0 where
  pub tree : T
  pub spelled : Is tree read
  pub same : seen tree ≡ want

-- the first byte behind the pieces
abbrev pub behind : ℕ → List Piece → ℕ
behind at [] = at
behind at (p ∷ more) = behind (at + length (piece_bytes p)) more

pub split : (at : ℕ) (a b : List Piece) → tokens_of at (a ++ b) ≡ tokens_of at a ++ tokens_of (behind at a) b
split at [] b = refl
split at (p ∷ a) b =
    ap (λ t. token_at at p ++ t) (split (at + length (piece_bytes p)) a b)
    ∙ sym (append_assoc (token_at at p) (tokens_of (at + length (piece_bytes p)) a) (tokens_of (behind (at + length (piece_bytes p)) a) b))

pub of_conv : (at : ℕ) (c : Conv) → IsConv c (tokens_of at (conv_pieces c))
of_conv at conv.Let = tokens.no_conv refl refl
of_conv at conv.Inout = tokens.inout_conv (here at) refl refl
of_conv at conv.Sink = tokens.sink_conv (here at) refl refl
of_conv at conv.Set = tokens.set_conv (here at) refl refl

abbrev pub seen_ty : Ty → CoreTy
seen_ty t = ty_aside (core_ty t)

abbrev pub seen_tys : List (Conv × Ty) → CoreTys
seen_tys params = tys_aside (core_tys_of (map (λ (p : Conv × Ty). (p.0, core_ty p.1)) params))

-- a printed type, also where one of a function stands in brackets
pub record TyReads (at : ℕ) (c : CoreTy) : Type 0 where
  pub any : Reads IsType seen_ty (tokens_of at (ty_pieces c)) (ty_aside c)
  pub plain : is_fun_ty c ≡ false → Reads IsResultType seen_ty (tokens_of at (ty_pieces c)) (ty_aside c)

from_plain : (at : ℕ) (c : CoreTy) → Reads IsResultType seen_ty (tokens_of at (ty_pieces c)) (ty_aside c) → TyReads at c
from_plain at c r = record { any = record { tree = r.tree; spelled = types.plain_type r.spelled; same = r.same }; plain = λ e. r }

in_brackets : (at : ℕ) (c : CoreTy) (b : Bool) → is_fun_ty c ≡ b → Reads IsType seen_ty (tokens_of (at + 1) (ty_pieces c)) (ty_aside c) →
    (is_fun_ty c ≡ false → Reads IsResultType seen_ty (tokens_of at (ty_pieces c)) (ty_aside c)) →
    Reads IsResultType seen_ty (tokens_of at (grouped_pieces b (ty_pieces c))) (ty_aside c)
in_brackets at c true e any plain = record {
  tree = any.tree;
  spelled = types.group_type (here at) (here (behind (at + 1) (ty_pieces c))) (tokens_of (at + 1) (ty_pieces c)) any.spelled
      (ap (λ t. mark (codes "(") (here at) ∷ t) (split (at + 1) (ty_pieces c) (MarkOf (codes ")") ∷ [])));
  same = any.same;
}
in_brackets at c false e any plain = plain e

mutual
  pub of_ty : (at : ℕ) (c : CoreTy) → TyReads at c
  of_ty at (IntTy p) = from_plain at (IntTy p) (record { tree = ty.Int (here at); spelled = types.int_type (here at) refl refl; same = ap ty_aside (lemmas.ty_int (here at)) })
  of_ty at (BoolTy p) = from_plain at (BoolTy p) (record { tree = ty.Bool (here at); spelled = types.bool_type (here at) refl refl; same = ap ty_aside (lemmas.ty_bool (here at)) })
  of_ty at (NamedTy name) = from_plain at (NamedTy name) (record { tree = ty.Named (placed at name); spelled = types.named_type (placed at name) refl refl; same = ap ty_aside (lemmas.ty_named (placed at name)) })
  of_ty at (ArrayTy p t) =
      let i = (of_ty (at + 1) t).any in
      from_plain at (ArrayTy p t) (record {
        tree = ty.Array (here at) i.tree;
        spelled = types.array_type (here at) (here (behind (at + 1) (ty_pieces t))) i.tree (tokens_of (at + 1) (ty_pieces t)) i.spelled refl
            (ap (λ x. mark (codes "[") (here at) ∷ x) (split (at + 1) (ty_pieces t) (MarkOf (codes "]") ∷ [])));
        same = ap ty_aside (lemmas.ty_array (here at) i.tree) ∙ ap (ArrayTy nowhere) i.same;
      })
  of_ty at (FunTy p params) =
      let ps = of_tys (at + 3 + 1) params in
      let close = behind (at + 3 + 1) (tys_pieces [] params) in
      record {
        any = record {
          tree = ty.Fun (here at) ps.tree None;
          spelled = types.function_type (here at) (here (at + 3)) (here close) ps.tree None (tokens_of (at + 3 + 1) (tys_pieces [] params)) [] ps.spelled (types.no_result refl refl) refl
              (ap (λ x. keyword (codes "fun") (here at) ∷ mark (codes "(") (here (at + 3)) ∷ x) (split (at + 3 + 1) (tys_pieces [] params) (MarkOf (codes ")") ∷ [])));
          same = ap ty_aside (lemmas.ty_fun (here at) ps.tree) ∙ ap (FunTy nowhere) ps.same;
        };
        plain = λ e. absurd cc;
      }
  of_ty at (FunToTy p params t) =
      let ps = of_tys (at + 3 + 1) params in
      let close = behind (at + 3 + 1) (tys_pieces [] params) in
      let begins = close + 1 + 1 + 2 + 1 in
      let r = in_brackets begins t (is_fun_ty t) refl (of_ty (begins + 1) t).any (of_ty begins t).plain in
      record {
        any = record {
          tree = ty.Fun (here at) ps.tree (Some r.tree);
          spelled = types.function_type (here at) (here (at + 3)) (here close) ps.tree (Some r.tree) (tokens_of (at + 3 + 1) (tys_pieces [] params))
              (mark (codes "->") (here (close + 1 + 1)) ∷ tokens_of begins (grouped_pieces (is_fun_ty t) (ty_pieces t))) ps.spelled
              (types.one_result (here (close + 1 + 1)) r.tree (tokens_of begins (grouped_pieces (is_fun_ty t) (ty_pieces t))) r.spelled refl refl) refl
              (ap (λ x. keyword (codes "fun") (here at) ∷ mark (codes "(") (here (at + 3)) ∷ x) (split (at + 3 + 1) (tys_pieces [] params) _));
          same = ap ty_aside (lemmas.ty_fun_to (here at) ps.tree r.tree) ∙ ap (λ x. FunToTy nowhere x (seen_ty r.tree)) ps.same ∙ ap (FunToTy nowhere (tys_aside params)) r.same;
        };
        plain = λ e. absurd cc;
      }

  pub of_tys : (at : ℕ) (ts : CoreTys) → Reads AreTypes seen_tys (tokens_of at (tys_pieces [] ts)) (tys_aside ts)
  of_tys at NoTys = record { tree = []; spelled = types.no_types refl refl; same = refl }
  of_tys at (TyOf c t more) =
      let s = some_tys at c t (λ a. of_ty a t) more in
      record { tree = s.tree; spelled = types.some_types s.spelled; same = s.same }

  some_tys : (at : ℕ) (c : Conv) (t : CoreTy) → ((a : ℕ) → TyReads a t) → (more : CoreTys) →
      Reads AreSomeTypes seen_tys (tokens_of at (conv_pieces c ++ (ty_pieces t ++ tys_pieces comma more))) (TyOf c (ty_aside t) (tys_aside more))
  some_tys at c t i NoTys =
      let a1 = behind at (conv_pieces c) in
      let r = (i a1).any in
      record {
        tree = (c, r.tree) ∷ [];
        spelled = types.one_type c r.tree (tokens_of at (conv_pieces c)) (tokens_of a1 (ty_pieces t)) (of_conv at c) r.spelled refl
            (split at (conv_pieces c) (ty_pieces t ++ []) ∙ ap (λ x. tokens_of at (conv_pieces c) ++ tokens_of a1 x) (append-nil (ty_pieces t)));
        same = ap (λ x. TyOf c x NoTys) r.same;
      }
  some_tys at c t i (TyOf c2 t2 more) =
      let a1 = behind at (conv_pieces c) in
      let a2 = behind a1 (ty_pieces t) in
      let r = (i a1).any in
      let s = some_tys (a2 + 1 + 1) c2 t2 (λ a. of_ty a t2) more in
      record {
        tree = (c, r.tree) ∷ s.tree;
        spelled = types.more_types c r.tree (tokens_of at (conv_pieces c)) (tokens_of a1 (ty_pieces t)) (here a2) s.tree
            (tokens_of (a2 + 1 + 1) (conv_pieces c2 ++ (ty_pieces t2 ++ tys_pieces comma more))) (of_conv at c) r.spelled s.spelled refl
            (split at (conv_pieces c) _ ∙ ap (λ x. tokens_of at (conv_pieces c) ++ x) (split a1 (ty_pieces t) _));
        same = ap (λ x. TyOf c x (seen_tys s.tree)) r.same ∙ ap (TyOf c (ty_aside t)) s.same;
      }
