-- The pieces of printed types, names and parameters stay apart, where what stands behind them closes.
use Rattle.std.proofs.Common.{◌≡◌, ℕ, zero, suc, Bool, true, false, List, [], ◌∷◌, ◌++◌, Option, Some, None, codes, refl}
use Rattle.std.specs.Prelude.{◌||◌, ℤ}
use Rattle.hv_tree.specs.declared.types.Conv.{Conv}
use Rattle.hv_tree.specs.declared.types.Conv.TheVariants as conv
use Rattle.hv_tree.specs.declared.types.Name.{Name}
use Rattle.hv_tree.specs.Core.{CoreTy, IntTy, BoolTy, NamedTy, ArrayTy, FunTy, FunToTy, CoreTys, NoTys, TyOf, CoreParam}
use Rattle.hv_tree.specs.Printed.{is_fun_ty}
use Rattle.hv_token.specs.Characters.{is_any_of, marks, keywords}
use Rattle.hv_print.specs.Pieces.{Piece, Space, LineFeed, WordOf, NumberOf, KeywordOf, MarkOf, indent_pieces, grouped_pieces, comma, names_pieces, conv_pieces, ty_pieces, tys_pieces, typed_pieces, params_pieces, return_pieces, handle_pieces}
use Rattle.hv_print.proofs.Proper.{ProperName, ProperNames, ProperTy, ProperTys, ProperParams, ProperResult}
use Rattle.hv_print.proofs.Fits.{IsGood, sealed, opens, fits, AreApart, closes, both}

-- ---- one piece before others

word_fits : (name : Name) (after : List Piece) → closes after ≡ true → fits (WordOf name) after ≡ true
word_fits name [] c = refl
word_fits name (q ∷ more) c = c

number_fits : (z : ℤ) (after : List Piece) → closes after ≡ true → fits (NumberOf z) after ≡ true
number_fits z [] c = refl
number_fits z (q ∷ more) c = c

keyword_fits : (text : List ℕ) (after : List Piece) → closes after ≡ true → fits (KeywordOf text) after ≡ true
keyword_fits text [] c = refl
keyword_fits text (q ∷ more) c = c

sealed_fits : (text : List ℕ) (after : List Piece) → is_any_of sealed text ≡ true → fits (MarkOf text) after ≡ true
sealed_fits text [] s = refl
sealed_fits text (q ∷ more) s = by (is_any_of sealed text) s
  where
    by : (b : Bool) → b ≡ true → (b || opens q) ≡ true
    by true e = refl
    by false e = absurd cc

space_fits : (after : List Piece) → fits Space after ≡ true
space_fits [] = refl
space_fits (q ∷ more) = refl

feed_fits : (after : List Piece) → fits LineFeed after ≡ true
feed_fits [] = refl
feed_fits (q ∷ more) = refl

pub put_word : (name : Name) (more after : List Piece) → ProperName name → closes (more ++ after) ≡ true → AreApart more after → AreApart (WordOf name ∷ more) after
put_word name more after p c h = (p, word_fits name (more ++ after) c, h)

pub put_keyword : (text : List ℕ) (more after : List Piece) → is_any_of keywords text ≡ true → closes (more ++ after) ≡ true → AreApart more after → AreApart (KeywordOf text ∷ more) after
put_keyword text more after g c h = (g, keyword_fits text (more ++ after) c, h)

pub put_mark : (text : List ℕ) (more after : List Piece) → is_any_of marks text ≡ true → is_any_of sealed text ≡ true → AreApart more after → AreApart (MarkOf text ∷ more) after
put_mark text more after g s h = (g, sealed_fits text (more ++ after) s, h)

pub put_space : (more after : List Piece) → AreApart more after → AreApart (Space ∷ more) after
put_space more after h = (tt, space_fits (more ++ after), h)

pub put_feed : (more after : List Piece) → AreApart more after → AreApart (LineFeed ∷ more) after
put_feed more after h = (tt, feed_fits (more ++ after), h)

pub put_number : (z : ℤ) (after : List Piece) → IsGood (NumberOf z) → closes after ≡ true → AreApart (NumberOf z ∷ []) after
put_number z after g c = (g, number_fits z after c, tt)

pub margin : (d : ℕ) (after : List Piece) → AreApart (indent_pieces d) after
margin zero after = tt
margin (suc d) after = put_space (Space ∷ indent_pieces d) after (put_space (indent_pieces d) after (margin d after))

-- in brackets where they are wanted
pub grouped : (b : Bool) (ps after : List Piece) → ((next : List Piece) → closes next ≡ true → AreApart ps next) → closes after ≡ true → AreApart (grouped_pieces b ps) after
grouped true ps after h c = put_mark (codes "(") (ps ++ MarkOf (codes ")") ∷ []) after refl refl (both ps (MarkOf (codes ")") ∷ []) after (h (MarkOf (codes ")") ∷ after) refl) (put_mark (codes ")") [] after refl refl tt))
grouped false ps after h c = h after c

-- ---- names

closes_names : (ns : List Name) (after : List Piece) → closes after ≡ true → closes (names_pieces comma ns ++ after) ≡ true
closes_names [] after c = c
closes_names (n ∷ more) after c = refl

more_names : (ns : List Name) (after : List Piece) → ProperNames ns → closes after ≡ true → AreApart (names_pieces comma ns) after
more_names [] after p c = tt
more_names (n ∷ more) after p c =
    put_mark (codes ",") (Space ∷ WordOf n ∷ names_pieces comma more) after refl refl
    (put_space (WordOf n ∷ names_pieces comma more) after (put_word n (names_pieces comma more) after p.0 (closes_names more after c) (more_names more after p.1 c)))

pub names : (ns : List Name) (after : List Piece) → ProperNames ns → closes after ≡ true → AreApart (names_pieces [] ns) after
names [] after p c = tt
names (n ∷ more) after p c = put_word n (names_pieces comma more) after p.0 (closes_names more after c) (more_names more after p.1 c)

-- ---- types

of_conv : (c : Conv) (after : List Piece) → AreApart (conv_pieces c) after
of_conv conv.Let after = tt
of_conv conv.Inout after = put_keyword (codes "inout") (Space ∷ []) after refl refl (put_space [] after tt)
of_conv conv.Sink after = put_keyword (codes "sink") (Space ∷ []) after refl refl (put_space [] after tt)
of_conv conv.Set after = put_keyword (codes "set") (Space ∷ []) after refl refl (put_space [] after tt)

closes_tys : (ts : CoreTys) (after : List Piece) → closes after ≡ true → closes (tys_pieces comma ts ++ after) ≡ true
closes_tys NoTys after c = c
closes_tys (TyOf v t more) after c = refl

mutual
  pub of_ty : (t : CoreTy) (after : List Piece) → ProperTy t → closes after ≡ true → AreApart (ty_pieces t) after
  of_ty (IntTy at) after p c = put_keyword (codes "Int") [] after refl c tt
  of_ty (BoolTy at) after p c = put_keyword (codes "Bool") [] after refl c tt
  of_ty (NamedTy name) after p c = put_word name [] after p c tt
  of_ty (ArrayTy at t) after p c =
      put_mark (codes "[") (ty_pieces t ++ MarkOf (codes "]") ∷ []) after refl refl
      (both (ty_pieces t) (MarkOf (codes "]") ∷ []) after (of_ty t (MarkOf (codes "]") ∷ after) p refl) (put_mark (codes "]") [] after refl refl tt))
  of_ty (FunTy at params) after p c =
      put_keyword (codes "fun") (MarkOf (codes "(") ∷ (tys_pieces [] params ++ MarkOf (codes ")") ∷ [])) after refl refl
      (put_mark (codes "(") (tys_pieces [] params ++ MarkOf (codes ")") ∷ []) after refl refl
      (both (tys_pieces [] params) (MarkOf (codes ")") ∷ []) after (of_tys params (MarkOf (codes ")") ∷ after) p refl) (put_mark (codes ")") [] after refl refl tt)))
  of_ty (FunToTy at params t) after p c =
      let last = grouped_pieces (is_fun_ty t) (ty_pieces t) in
      let end = MarkOf (codes ")") ∷ Space ∷ MarkOf (codes "->") ∷ Space ∷ last in
      put_keyword (codes "fun") (MarkOf (codes "(") ∷ (tys_pieces [] params ++ end)) after refl refl
      (put_mark (codes "(") (tys_pieces [] params ++ end) after refl refl
      (both (tys_pieces [] params) end after (of_tys params (end ++ after) p.0 refl)
      (put_mark (codes ")") (Space ∷ MarkOf (codes "->") ∷ Space ∷ last) after refl refl
      (put_space (MarkOf (codes "->") ∷ Space ∷ last) after
      (put_mark (codes "->") (Space ∷ last) after refl refl
      (put_space last after (grouped (is_fun_ty t) (ty_pieces t) after (λ next k. of_ty t next p.1 k) c)))))))

  of_tys : (ts : CoreTys) (after : List Piece) → ProperTys ts → closes after ≡ true → AreApart (tys_pieces [] ts) after
  of_tys NoTys after p c = tt
  of_tys (TyOf v t more) after p c =
      both (conv_pieces v) (ty_pieces t ++ tys_pieces comma more) after (of_conv v ((ty_pieces t ++ tys_pieces comma more) ++ after))
      (both (ty_pieces t) (tys_pieces comma more) after (of_ty t (tys_pieces comma more ++ after) p.0 (closes_tys more after c)) (more_tys more after p.1 c))

  more_tys : (ts : CoreTys) (after : List Piece) → ProperTys ts → closes after ≡ true → AreApart (tys_pieces comma ts) after
  more_tys NoTys after p c = tt
  more_tys (TyOf v t more) after p c =
      put_mark (codes ",") (Space ∷ (conv_pieces v ++ (ty_pieces t ++ tys_pieces comma more))) after refl refl
      (put_space (conv_pieces v ++ (ty_pieces t ++ tys_pieces comma more)) after
      (both (conv_pieces v) (ty_pieces t ++ tys_pieces comma more) after (of_conv v ((ty_pieces t ++ tys_pieces comma more) ++ after))
      (both (ty_pieces t) (tys_pieces comma more) after (of_ty t (tys_pieces comma more ++ after) p.0 (closes_tys more after c)) (more_tys more after p.1 c))))

pub typed : (name : Name) (t : CoreTy) (after : List Piece) → ProperName name → ProperTy t → closes after ≡ true → AreApart (typed_pieces name t) after
typed name t after p q c =
    put_word name (MarkOf (codes ":") ∷ Space ∷ ty_pieces t) after p refl
    (put_mark (codes ":") (Space ∷ ty_pieces t) after refl refl (put_space (ty_pieces t) after (of_ty t after q c)))

-- ---- parameters and results

closes_params : (ps : List CoreParam) (after : List Piece) → closes after ≡ true → closes (params_pieces comma ps ++ after) ≡ true
closes_params [] after c = c
closes_params (p ∷ more) after c = refl

mutual
  pub params : (ps : List CoreParam) (after : List Piece) → ProperParams ps → closes after ≡ true → AreApart (params_pieces [] ps) after
  params [] after p c = tt
  params (x ∷ more) after p c =
      let rest = params_pieces comma more in
      put_word x.name (MarkOf (codes ":") ∷ Space ∷ (conv_pieces x.conv ++ (ty_pieces x.ty ++ rest))) after p.0 refl
      (put_mark (codes ":") (Space ∷ (conv_pieces x.conv ++ (ty_pieces x.ty ++ rest))) after refl refl
      (put_space (conv_pieces x.conv ++ (ty_pieces x.ty ++ rest)) after
      (both (conv_pieces x.conv) (ty_pieces x.ty ++ rest) after (of_conv x.conv ((ty_pieces x.ty ++ rest) ++ after))
      (both (ty_pieces x.ty) rest after (of_ty x.ty (rest ++ after) p.1 (closes_params more after c)) (more_params more after p.2 c)))))

  more_params : (ps : List CoreParam) (after : List Piece) → ProperParams ps → closes after ≡ true → AreApart (params_pieces comma ps) after
  more_params [] after p c = tt
  more_params (x ∷ more) after p c =
      let rest = params_pieces comma more in
      let one = WordOf x.name ∷ MarkOf (codes ":") ∷ Space ∷ (conv_pieces x.conv ++ (ty_pieces x.ty ++ rest)) in
      put_mark (codes ",") (Space ∷ one) after refl refl
      (put_space one after
      (put_word x.name (MarkOf (codes ":") ∷ Space ∷ (conv_pieces x.conv ++ (ty_pieces x.ty ++ rest))) after p.0 refl
      (put_mark (codes ":") (Space ∷ (conv_pieces x.conv ++ (ty_pieces x.ty ++ rest))) after refl refl
      (put_space (conv_pieces x.conv ++ (ty_pieces x.ty ++ rest)) after
      (both (conv_pieces x.conv) (ty_pieces x.ty ++ rest) after (of_conv x.conv ((ty_pieces x.ty ++ rest) ++ after))
      (both (ty_pieces x.ty) rest after (of_ty x.ty (rest ++ after) p.1 (closes_params more after c)) (more_params more after p.2 c)))))))

pub returned : (t : Option CoreTy) (after : List Piece) → ProperResult t → closes after ≡ true → AreApart (return_pieces t) after
returned None after p c = tt
returned (Some t) after p c =
    put_space (MarkOf (codes "->") ∷ Space ∷ ty_pieces t) after
    (put_mark (codes "->") (Space ∷ ty_pieces t) after refl refl (put_space (ty_pieces t) after (of_ty t after p c)))

pub handled : (t : Option CoreTy) (after : List Piece) → ProperResult t → closes after ≡ true → AreApart (handle_pieces t) after
handled None after p c = tt
handled (Some t) after p c = put_mark (codes ":") (Space ∷ ty_pieces t) after refl refl (put_space (ty_pieces t) after (of_ty t after p c))

-- a handle's type before other pieces
pub closes_handle : (t : Option CoreTy) (more after : List Piece) → closes (more ++ after) ≡ true → closes ((handle_pieces t ++ more) ++ after) ≡ true
closes_handle None more after c = c
closes_handle (Some t) more after c = refl
