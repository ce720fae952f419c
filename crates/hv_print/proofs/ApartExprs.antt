-- The pieces of printed expressions and statements stay apart, where what stands behind them closes.
use Rattle.std.proofs.Common.{◌≡◌, inl, inr, ℕ, suc, Bool, true, false, nat_le, List, [], ◌∷◌, ◌++◌, codes, refl, sym, ap, subst}
use Rattle.hv_tree.specs.declared.types.Name.{Name}
use Rattle.hv_tree.specs.declared.ast.Operator.{Operator}
use Rattle.hv_tree.specs.declared.ast.Operator.TheVariants as operator
use Rattle.hv_tree.specs.Tokens.{Level}
use Rattle.hv_token.specs.Characters.{is_any_of, keywords}
use Rattle.hv_tree.specs.Core.{CoreTy, CoreExpr, Number, Truth, Path, Calls, Awaits, Array, Filled, Count, Lambda, Prefix, Chain, CoreExprs, NoExprs, ExprOf, CoreLinks, NoLinks, LinkOf, CoreSteps, NoSteps, FieldStep, IndexStep, CoreCall, CallOf, CoreArgs, NoArgs, ValueArg, RefArg, CoreBlock, BlockOf, CoreStmts, NoStmts, StmtOf, CoreBranches, NoElse, Else, BranchOf, CoreStmt, Var, VarWith, Let, Inout, Assign, If, While, Return, ReturnWith, Print, Task, AwaitsAlone, CallsAlone, Bare}
use Rattle.hv_tree.specs.Printed.{tightness, links_tightness, expr_tightness}
use Rattle.hv_print.specs.Pieces.{Piece, Space, LineFeed, WordOf, KeywordOf, MarkOf, indent_pieces, grouped_pieces, comma, names_pieces, typed_pieces, params_pieces, return_pieces, handle_pieces, operator_piece, operand_pieces, expr_pieces, exprs_pieces, links_pieces, steps_pieces, call_pieces, args_pieces, block_pieces, stmts_pieces, branches_pieces, stmt_pieces}
use Rattle.hv_print.proofs.Proper.{ProperName, ProperTy, IsPrefix, ProperExpr, ProperExprs, ProperLinks, ProperSteps, ProperCall, ProperArgs, ProperBlock, ProperStmts, ProperBranches, ProperStmt}
use Rattle.hv_print.proofs.Fits.{IsGood, opens, fits, AreApart, closes, both}
use Rattle.hv_print.proofs.ApartParts.{put_word, put_keyword, put_mark, put_space, put_feed, put_number, margin, grouped, names, typed, params, returned, handled, closes_handle}

-- ---- operators

good_sign : (o : Operator) → IsGood (operator_piece o)
good_sign operator.Add = refl
good_sign operator.Sub = refl
good_sign operator.Mul = refl
good_sign operator.Div = refl
good_sign operator.Rem = refl
good_sign operator.Eq = refl
good_sign operator.Ne = refl
good_sign operator.Lt = refl
good_sign operator.Le = refl
good_sign operator.Gt = refl
good_sign operator.Ge = refl
good_sign operator.And = refl
good_sign operator.Or = refl
good_sign operator.Neg = refl
good_sign operator.Not = refl

sign_fits : (o : Operator) (more : List Piece) → fits (operator_piece o) (Space ∷ more) ≡ true
sign_fits operator.Add more = refl
sign_fits operator.Sub more = refl
sign_fits operator.Mul more = refl
sign_fits operator.Div more = refl
sign_fits operator.Rem more = refl
sign_fits operator.Eq more = refl
sign_fits operator.Ne more = refl
sign_fits operator.Lt more = refl
sign_fits operator.Le more = refl
sign_fits operator.Gt more = refl
sign_fits operator.Ge more = refl
sign_fits operator.And more = refl
sign_fits operator.Or more = refl
sign_fits operator.Neg more = refl
sign_fits operator.Not more = refl

-- an operator binds no tighter than a prefix
loose_sign : (o : Operator) → nat_le (tightness o) 5 ≡ true
loose_sign operator.Add = refl
loose_sign operator.Sub = refl
loose_sign operator.Mul = refl
loose_sign operator.Div = refl
loose_sign operator.Rem = refl
loose_sign operator.Eq = refl
loose_sign operator.Ne = refl
loose_sign operator.Lt = refl
loose_sign operator.Le = refl
loose_sign operator.Gt = refl
loose_sign operator.Ge = refl
loose_sign operator.And = refl
loose_sign operator.Or = refl
loose_sign operator.Neg = refl
loose_sign operator.Not = refl

-- no mark goes on with what comes next
abbrev opens_on : List Piece → Bool
opens_on [] = true
opens_on (q ∷ more) = opens q

minus_fits : (after : List Piece) → opens_on after ≡ true → fits (MarkOf (codes "-")) after ≡ true
minus_fits [] e = refl
minus_fits (q ∷ more) e = e

bang_fits : (after : List Piece) → opens_on after ≡ true → fits (MarkOf (codes "!")) after ≡ true
bang_fits [] e = refl
bang_fits (q ∷ more) e = e

operand_opens : (d : ℕ) (x : CoreExpr) (after : List Piece) → ProperExpr x → opens_on (operand_pieces 5 x (expr_pieces d x) ++ after) ≡ true
operand_opens d (Number at z) after p = refl
operand_opens d (Truth at true) after p = refl
operand_opens d (Truth at false) after p = refl
operand_opens d (Path at root steps) after p = refl
operand_opens d (Calls at (CallOf root steps paren args)) after p = refl
operand_opens d (Awaits at name) after p = refl
operand_opens d (Array at xs) after p = refl
operand_opens d (Filled at len value) after p = refl
operand_opens d (Count at root steps) after p = refl
operand_opens d (Lambda at captures ps r body) after p = refl
operand_opens d (Prefix at o x) after p = refl
operand_opens d (Chain at first NoLinks) after p = absurd p.1
operand_opens d (Chain at first (LinkOf o at2 x more)) after p =
    ap (λ b. opens_on (grouped_pieces b (expr_pieces d (Chain at first (LinkOf o at2 x more))) ++ after)) (loose_sign o)

put_prefix : (d : ℕ) (o : Operator) (x : CoreExpr) (after : List Piece) → IsPrefix o → ProperExpr x → AreApart (operand_pieces 5 x (expr_pieces d x)) after → AreApart (operator_piece o ∷ operand_pieces 5 x (expr_pieces d x)) after
put_prefix d o x after (inl e) p h =
    subst (λ o. AreApart (operator_piece o ∷ operand_pieces 5 x (expr_pieces d x)) after) (sym e) (refl, minus_fits (operand_pieces 5 x (expr_pieces d x) ++ after) (operand_opens d x after p), h)
put_prefix d o x after (inr e) p h =
    subst (λ o. AreApart (operator_piece o ∷ operand_pieces 5 x (expr_pieces d x)) after) (sym e) (refl, bang_fits (operand_pieces 5 x (expr_pieces d x) ++ after) (operand_opens d x after p), h)

put_sign : (o : Operator) (more after : List Piece) → AreApart more after → AreApart (Space ∷ (operator_piece o ∷ (Space ∷ more))) after
put_sign o more after h = put_space (operator_piece o ∷ (Space ∷ more)) after (good_sign o, sign_fits o (more ++ after), put_space more after h)

-- `=` or `&`
put_equals : (more after : List Piece) → AreApart more after → AreApart (Space ∷ MarkOf (codes "=") ∷ Space ∷ more) after
put_equals more after h = put_space (MarkOf (codes "=") ∷ Space ∷ more) after (refl, refl, put_space more after h)

put_ref : (root : Name) (more after : List Piece) → AreApart (WordOf root ∷ more) after → AreApart (MarkOf (codes "&") ∷ (WordOf root ∷ more)) after
put_ref root more after h = (refl, refl, h)

-- ---- what closes

closes_exprs : (d : ℕ) (xs : CoreExprs) (after : List Piece) → closes after ≡ true → closes (exprs_pieces d comma xs ++ after) ≡ true
closes_exprs d NoExprs after c = c
closes_exprs d (ExprOf x more) after c = refl

closes_links : (d outer : ℕ) (links : CoreLinks) (after : List Piece) → closes after ≡ true → closes (links_pieces d outer links ++ after) ≡ true
closes_links d outer NoLinks after c = c
closes_links d outer (LinkOf o at x more) after c = refl

closes_steps : (d : ℕ) (steps : CoreSteps) (after : List Piece) → closes after ≡ true → closes (steps_pieces d steps ++ after) ≡ true
closes_steps d NoSteps after c = c
closes_steps d (FieldStep name more) after c = refl
closes_steps d (IndexStep at x more) after c = refl

-- steps before other pieces
closes_place : (d : ℕ) (steps : CoreSteps) (more after : List Piece) → closes (more ++ after) ≡ true → closes ((steps_pieces d steps ++ more) ++ after) ≡ true
closes_place d NoSteps more after c = c
closes_place d (FieldStep name rest) more after c = refl
closes_place d (IndexStep at x rest) more after c = refl

closes_args : (d : ℕ) (args : CoreArgs) (after : List Piece) → closes after ≡ true → closes (args_pieces d comma args ++ after) ≡ true
closes_args d NoArgs after c = c
closes_args d (ValueArg x more) after c = refl
closes_args d (RefArg at root steps more) after c = refl

closes_block : (d : ℕ) (b : CoreBlock) (after : List Piece) → closes (block_pieces d b ++ after) ≡ true
closes_block d (BlockOf xs end) after = refl

-- a block before other pieces
pub closes_body : (d : ℕ) (b : CoreBlock) (more after : List Piece) → closes ((block_pieces d b ++ more) ++ after) ≡ true
closes_body d (BlockOf xs end) more after = refl

abbrev lead : List Piece
lead = Space ∷ KeywordOf (codes "else") ∷ Space ∷ KeywordOf (codes "if") ∷ Space ∷ []

-- ---- all together

-- a keyword, a name with its type and what is bound to it
bound : (text : List ℕ) (name : Name) (t : CoreTy) (value after : List Piece) → is_any_of keywords text ≡ true → ProperName name → ProperTy t → AreApart value after →
    AreApart (KeywordOf text ∷ Space ∷ (typed_pieces name t ++ (Space ∷ MarkOf (codes "=") ∷ Space ∷ value))) after
bound text name t value after g p q h =
    let end = Space ∷ MarkOf (codes "=") ∷ Space ∷ value in
    put_keyword text (Space ∷ (typed_pieces name t ++ end)) after g refl
    (put_space (typed_pieces name t ++ end) after (both (typed_pieces name t) end after (typed name t (end ++ after) p q refl) (put_equals value after h)))

mutual
  pub expr : (d : ℕ) (x : CoreExpr) (after : List Piece) → ProperExpr x → closes after ≡ true → AreApart (expr_pieces d x) after
  expr d (Number at z) after p c = put_number z after p c
  expr d (Truth at true) after p c = put_keyword (codes "true") [] after refl c tt
  expr d (Truth at false) after p c = put_keyword (codes "false") [] after refl c tt
  expr d (Path at root steps) after p c = put_word root (steps_pieces d steps) after p.0 (closes_steps d steps after c) (parts d steps after p.1 c)
  expr d (Calls at k) after p c = call d k after p
  expr d (Awaits at name) after p c = put_keyword (codes "await") (Space ∷ WordOf name ∷ []) after refl refl (put_space (WordOf name ∷ []) after (put_word name [] after p c tt))
  expr d (Array at xs) after p c =
      put_mark (codes "[") (exprs_pieces d [] xs ++ MarkOf (codes "]") ∷ []) after refl refl
      (both (exprs_pieces d [] xs) (MarkOf (codes "]") ∷ []) after (exprs d xs (MarkOf (codes "]") ∷ after) p.1 refl) (put_mark (codes "]") [] after refl refl tt))
  expr d (Filled at len value) after p c =
      let end = expr_pieces d value ++ MarkOf (codes ")") ∷ [] in
      let mid = MarkOf (codes ",") ∷ Space ∷ end in
      put_keyword (codes "filled") (MarkOf (codes "(") ∷ (expr_pieces d len ++ mid)) after refl refl
      (put_mark (codes "(") (expr_pieces d len ++ mid) after refl refl
      (both (expr_pieces d len) mid after (expr d len (mid ++ after) p.0 refl)
      (put_mark (codes ",") (Space ∷ end) after refl refl
      (put_space end after
      (both (expr_pieces d value) (MarkOf (codes ")") ∷ []) after (expr d value (MarkOf (codes ")") ∷ after) p.1 refl) (put_mark (codes ")") [] after refl refl tt))))))
  expr d (Count at root steps) after p c =
      let end = MarkOf (codes ")") ∷ [] in
      put_keyword (codes "count") (MarkOf (codes "(") ∷ (WordOf root ∷ (steps_pieces d steps ++ end))) after refl refl
      (put_mark (codes "(") (WordOf root ∷ (steps_pieces d steps ++ end)) after refl refl
      (put_word root (steps_pieces d steps ++ end) after p.0 (closes_place d steps end after refl)
      (both (steps_pieces d steps) end after (parts d steps (end ++ after) p.1 refl) (put_mark (codes ")") [] after refl refl tt))))
  expr d (Lambda at captures ps r body) after p c =
      let tail = return_pieces r ++ block_pieces d body in
      let end = MarkOf (codes ")") ∷ tail in
      let mid = MarkOf (codes "]") ∷ Space ∷ MarkOf (codes "(") ∷ (params_pieces [] ps ++ end) in
      put_keyword (codes "fun") (Space ∷ MarkOf (codes "[") ∷ (names_pieces [] captures ++ mid)) after refl refl
      (put_space (MarkOf (codes "[") ∷ (names_pieces [] captures ++ mid)) after
      (put_mark (codes "[") (names_pieces [] captures ++ mid) after refl refl
      (both (names_pieces [] captures) mid after (names captures (mid ++ after) p.0 refl)
      (put_mark (codes "]") (Space ∷ MarkOf (codes "(") ∷ (params_pieces [] ps ++ end)) after refl refl
      (put_space (MarkOf (codes "(") ∷ (params_pieces [] ps ++ end)) after
      (put_mark (codes "(") (params_pieces [] ps ++ end) after refl refl
      (both (params_pieces [] ps) end after (params ps (end ++ after) p.1 refl)
      (put_mark (codes ")") tail after refl refl
      (both (return_pieces r) (block_pieces d body) after (returned r (block_pieces d body ++ after) p.2 (closes_block d body after)) (block d body after p.3))))))))))
  expr d (Prefix at o x) after p c = put_prefix d o x after p.0 p.1 (grouped (nat_le (expr_tightness x) 5) (expr_pieces d x) after (λ next k. expr d x next p.1 k) c)
  expr d (Chain at first links) after p c =
      let outer = links_tightness links in
      both (operand_pieces outer first (expr_pieces d first)) (links_pieces d outer links) after
      (grouped (nat_le (expr_tightness first) outer) (expr_pieces d first) (links_pieces d outer links ++ after) (λ next k. expr d first next p.0 k) (closes_links d outer links after c)) (chain d outer p.2.0 links after p.2.1 c)

  exprs : (d : ℕ) (xs : CoreExprs) (after : List Piece) → ProperExprs xs → closes after ≡ true → AreApart (exprs_pieces d [] xs) after
  exprs d NoExprs after p c = tt
  exprs d (ExprOf x more) after p c =
      both (expr_pieces d x) (exprs_pieces d comma more) after (expr d x (exprs_pieces d comma more ++ after) p.0 (closes_exprs d more after c)) (more_exprs d more after p.1 c)

  more_exprs : (d : ℕ) (xs : CoreExprs) (after : List Piece) → ProperExprs xs → closes after ≡ true → AreApart (exprs_pieces d comma xs) after
  more_exprs d NoExprs after p c = tt
  more_exprs d (ExprOf x more) after p c =
      let one = expr_pieces d x ++ exprs_pieces d comma more in
      put_mark (codes ",") (Space ∷ one) after refl refl
      (put_space one after
      (both (expr_pieces d x) (exprs_pieces d comma more) after (expr d x (exprs_pieces d comma more ++ after) p.0 (closes_exprs d more after c)) (more_exprs d more after p.1 c)))

  chain : (d outer : ℕ) (l : Level) (links : CoreLinks) (after : List Piece) → ProperLinks l links → closes after ≡ true → AreApart (links_pieces d outer links) after
  chain d outer l NoLinks after p c = tt
  chain d outer l (LinkOf o at x more) after p c =
      put_sign o (operand_pieces outer x (expr_pieces d x) ++ links_pieces d outer more) after
      (both (operand_pieces outer x (expr_pieces d x)) (links_pieces d outer more) after
      (grouped (nat_le (expr_tightness x) outer) (expr_pieces d x) (links_pieces d outer more ++ after) (λ next k. expr d x next p.1 k) (closes_links d outer more after c)) (chain d outer l more after p.3 c))

  parts : (d : ℕ) (steps : CoreSteps) (after : List Piece) → ProperSteps steps → closes after ≡ true → AreApart (steps_pieces d steps) after
  parts d NoSteps after p c = tt
  parts d (FieldStep name more) after p c =
      put_mark (codes ".") (WordOf name ∷ steps_pieces d more) after refl refl (put_word name (steps_pieces d more) after p.0 (closes_steps d more after c) (parts d more after p.1 c))
  parts d (IndexStep at x more) after p c =
      let end = MarkOf (codes "]") ∷ steps_pieces d more in
      put_mark (codes "[") (expr_pieces d x ++ end) after refl refl
      (both (expr_pieces d x) end after (expr d x (end ++ after) p.0 refl) (put_mark (codes "]") (steps_pieces d more) after refl refl (parts d more after p.1 c)))

  call : (d : ℕ) (k : CoreCall) (after : List Piece) → ProperCall k → AreApart (call_pieces d k) after
  call d (CallOf root steps paren list) after p =
      let end = MarkOf (codes ")") ∷ [] in
      let mid = MarkOf (codes "(") ∷ (args_pieces d [] list ++ end) in
      put_word root (steps_pieces d steps ++ mid) after p.0 (closes_place d steps mid after refl)
      (both (steps_pieces d steps) mid after (parts d steps (mid ++ after) p.1 refl)
      (put_mark (codes "(") (args_pieces d [] list ++ end) after refl refl
      (both (args_pieces d [] list) end after (args d list (end ++ after) p.2 refl) (put_mark (codes ")") [] after refl refl tt))))

  args : (d : ℕ) (list : CoreArgs) (after : List Piece) → ProperArgs list → closes after ≡ true → AreApart (args_pieces d [] list) after
  args d NoArgs after p c = tt
  args d (ValueArg x more) after p c =
      both (expr_pieces d x) (args_pieces d comma more) after (expr d x (args_pieces d comma more ++ after) p.0 (closes_args d more after c)) (more_args d more after p.1 c)
  args d (RefArg at root steps more) after p c =
      let rest = args_pieces d comma more in
      put_ref root (steps_pieces d steps ++ rest) after
      (put_word root (steps_pieces d steps ++ rest) after p.0 (closes_place d steps rest after (closes_args d more after c))
      (both (steps_pieces d steps) rest after (parts d steps (rest ++ after) p.1 (closes_args d more after c)) (more_args d more after p.2 c)))

  more_args : (d : ℕ) (list : CoreArgs) (after : List Piece) → ProperArgs list → closes after ≡ true → AreApart (args_pieces d comma list) after
  more_args d NoArgs after p c = tt
  more_args d (ValueArg x more) after p c =
      let one = expr_pieces d x ++ args_pieces d comma more in
      put_mark (codes ",") (Space ∷ one) after refl refl
      (put_space one after
      (both (expr_pieces d x) (args_pieces d comma more) after (expr d x (args_pieces d comma more ++ after) p.0 (closes_args d more after c)) (more_args d more after p.1 c)))
  more_args d (RefArg at root steps more) after p c =
      let rest = args_pieces d comma more in
      let one = MarkOf (codes "&") ∷ (WordOf root ∷ (steps_pieces d steps ++ rest)) in
      put_mark (codes ",") (Space ∷ one) after refl refl
      (put_space one after
      (put_ref root (steps_pieces d steps ++ rest) after
      (put_word root (steps_pieces d steps ++ rest) after p.0 (closes_place d steps rest after (closes_args d more after c))
      (both (steps_pieces d steps) rest after (parts d steps (rest ++ after) p.1 (closes_args d more after c)) (more_args d more after p.2 c)))))

  pub block : (d : ℕ) (b : CoreBlock) (after : List Piece) → ProperBlock b → AreApart (block_pieces d b) after
  block d (BlockOf xs end) after p =
      let close = MarkOf (codes "}") ∷ [] in
      let all = stmts_pieces (suc d) xs ++ (indent_pieces d ++ close) in
      put_space (MarkOf (codes "{") ∷ (LineFeed ∷ all)) after
      (put_mark (codes "{") (LineFeed ∷ all) after refl refl
      (put_feed all after
      (both (stmts_pieces (suc d) xs) (indent_pieces d ++ close) after (stmts (suc d) xs ((indent_pieces d ++ close) ++ after) p)
      (both (indent_pieces d) close after (margin d (close ++ after)) (put_mark (codes "}") [] after refl refl tt)))))

  stmts : (d : ℕ) (xs : CoreStmts) (after : List Piece) → ProperStmts xs → AreApart (stmts_pieces d xs) after
  stmts d NoStmts after p = tt
  stmts d (StmtOf x more) after p =
      let rest = LineFeed ∷ stmts_pieces d more in
      both (indent_pieces d) (stmt_pieces d x ++ rest) after (margin d ((stmt_pieces d x ++ rest) ++ after))
      (both (stmt_pieces d x) rest after (stmt d x (rest ++ after) p.0 refl) (put_feed (stmts_pieces d more) after (stmts d more after p.1)))

  branches : (d : ℕ) (bs : CoreBranches) (after : List Piece) → ProperBranches bs → AreApart (branches_pieces d lead bs) after
  branches d NoElse after p = tt
  branches d (Else body) after p = put_space (KeywordOf (codes "else") ∷ block_pieces d body) after (put_keyword (codes "else") (block_pieces d body) after refl (closes_block d body after) (block d body after p))
  branches d (BranchOf test body more) after p =
      let rest = branches_pieces d lead more in
      let one = expr_pieces d test ++ (block_pieces d body ++ rest) in
      put_space (KeywordOf (codes "else") ∷ Space ∷ KeywordOf (codes "if") ∷ Space ∷ one) after
      (put_keyword (codes "else") (Space ∷ KeywordOf (codes "if") ∷ Space ∷ one) after refl refl
      (put_space (KeywordOf (codes "if") ∷ Space ∷ one) after
      (put_keyword (codes "if") (Space ∷ one) after refl refl
      (put_space one after
      (both (expr_pieces d test) (block_pieces d body ++ rest) after (expr d test ((block_pieces d body ++ rest) ++ after) p.0 (closes_body d body rest after))
      (both (block_pieces d body) rest after (block d body (rest ++ after) p.1) (branches d more after p.2)))))))

  stmt : (d : ℕ) (x : CoreStmt) (after : List Piece) → ProperStmt x → closes after ≡ true → AreApart (stmt_pieces d x) after
  stmt d (Var at name t) after p c = put_keyword (codes "var") (Space ∷ typed_pieces name t) after refl refl (put_space (typed_pieces name t) after (typed name t after p.0 p.1 c))
  stmt d (VarWith at name t x) after p c = bound (codes "var") name t (expr_pieces d x) after refl p.0 p.1 (expr d x after p.2 c)
  stmt d (Let at name t x) after p c = bound (codes "let") name t (expr_pieces d x) after refl p.0 p.1 (expr d x after p.2 c)
  stmt d (Inout at name t root steps) after p c =
      bound (codes "inout") name t (MarkOf (codes "&") ∷ (WordOf root ∷ steps_pieces d steps)) after refl p.0 p.1
      (put_ref root (steps_pieces d steps) after (put_word root (steps_pieces d steps) after p.2 (closes_steps d steps after c) (parts d steps after p.3 c)))
  stmt d (Assign at root steps x) after p c =
      let end = Space ∷ MarkOf (codes "=") ∷ Space ∷ expr_pieces d x in
      put_ref root (steps_pieces d steps ++ end) after
      (put_word root (steps_pieces d steps ++ end) after p.0 (closes_place d steps end after refl)
      (both (steps_pieces d steps) end after (parts d steps (end ++ after) p.1 refl) (put_equals (expr_pieces d x) after (expr d x after p.2 c))))
  stmt d (If at NoElse) after p c = absurd p.0
  stmt d (If at (Else b)) after p c = absurd p.0
  stmt d (If at (BranchOf test body more)) after p c =
      let rest = branches_pieces d lead more in
      let one = expr_pieces d test ++ (block_pieces d body ++ rest) in
      put_keyword (codes "if") (Space ∷ one) after refl refl
      (put_space one after
      (both (expr_pieces d test) (block_pieces d body ++ rest) after (expr d test ((block_pieces d body ++ rest) ++ after) p.1.0 (closes_body d body rest after))
      (both (block_pieces d body) rest after (block d body (rest ++ after) p.1.1) (branches d more after p.1.2))))
  stmt d (While at test body) after p c =
      put_keyword (codes "while") (Space ∷ (expr_pieces d test ++ block_pieces d body)) after refl refl
      (put_space (expr_pieces d test ++ block_pieces d body) after
      (both (expr_pieces d test) (block_pieces d body) after (expr d test (block_pieces d body ++ after) p.0 (closes_block d body after)) (block d body after p.1)))
  stmt d (Return at) after p c = put_keyword (codes "return") (MarkOf (codes ";") ∷ []) after refl refl (put_mark (codes ";") [] after refl refl tt)
  stmt d (ReturnWith at x) after p c = put_keyword (codes "return") (Space ∷ expr_pieces d x) after refl refl (put_space (expr_pieces d x) after (expr d x after p c))
  stmt d (Print at x) after p c =
      let end = MarkOf (codes ")") ∷ [] in
      put_keyword (codes "print") (MarkOf (codes "(") ∷ (expr_pieces d x ++ end)) after refl refl
      (put_mark (codes "(") (expr_pieces d x ++ end) after refl refl
      (both (expr_pieces d x) end after (expr d x (end ++ after) p refl) (put_mark (codes ")") [] after refl refl tt)))
  stmt d (Task at handle t spawn budget k) after p c =
      let end = MarkOf (codes ")") ∷ Space ∷ call_pieces d k in
      let right = KeywordOf (codes "spawn") ∷ MarkOf (codes "(") ∷ (expr_pieces d budget ++ end) in
      let mid = Space ∷ MarkOf (codes "=") ∷ Space ∷ right in
      put_keyword (codes "task") (Space ∷ (WordOf handle ∷ (handle_pieces t ++ mid))) after refl refl
      (put_space (WordOf handle ∷ (handle_pieces t ++ mid)) after
      (put_word handle (handle_pieces t ++ mid) after p.0 (closes_handle t mid after refl)
      (both (handle_pieces t) mid after (handled t (mid ++ after) p.1 refl)
      (put_equals right after
      (put_keyword (codes "spawn") (MarkOf (codes "(") ∷ (expr_pieces d budget ++ end)) after refl refl
      (put_mark (codes "(") (expr_pieces d budget ++ end) after refl refl
      (both (expr_pieces d budget) end after (expr d budget (end ++ after) p.2 refl)
      (put_mark (codes ")") (Space ∷ call_pieces d k) after refl refl (put_space (call_pieces d k) after (call d k after p.3))))))))))
  stmt d (AwaitsAlone at name) after p c = put_keyword (codes "await") (Space ∷ WordOf name ∷ []) after refl refl (put_space (WordOf name ∷ []) after (put_word name [] after p c tt))
  stmt d (CallsAlone at k) after p c = call d k after p
  stmt d (Bare at (BlockOf xs end)) after p c = (block d (BlockOf xs end) after p).2
