-- The pieces of a printed program stay apart.
use Rattle.std.proofs.Common.{◌≡◌, List, [], ◌∷◌, ◌++◌, codes, refl}
use Rattle.hv_tree.specs.declared.ast.Tree.{Tree}
use Rattle.hv_tree.specs.Core.{CoreField, CoreDecl, StructOf, FunOf, core_tree}
use Rattle.hv_token.specs.Lexes.{order_mark, body}
use Rattle.hv_print.specs.Pieces.{Piece, Space, LineFeed, WordOf, KeywordOf, MarkOf, typed_pieces, params_pieces, return_pieces, block_pieces, fields_pieces, decl_pieces, decls_pieces, Pieces}
use Rattle.hv_print.proofs.Proper.{ProperFields, ProperDecl, ProperDecls}
use Rattle.hv_print.proofs.Fits.{AreApart, both}
use Rattle.hv_print.proofs.LexedPieces.{chars_of}
use Rattle.hv_print.proofs.ApartParts.{put_word, put_keyword, put_mark, put_space, put_feed, typed, params, returned}
use Rattle.hv_print.proofs.ApartExprs.{block, closes_body}

fields : (fs : List CoreField) (after : List Piece) → ProperFields fs → AreApart (fields_pieces fs) after
fields [] after p = tt
fields (f ∷ more) after p =
    let end = LineFeed ∷ fields_pieces more in
    let one = typed_pieces f.name f.ty ++ end in
    put_space (Space ∷ KeywordOf (codes "var") ∷ Space ∷ one) after
    (put_space (KeywordOf (codes "var") ∷ Space ∷ one) after
    (put_keyword (codes "var") (Space ∷ one) after refl refl
    (put_space one after (both (typed_pieces f.name f.ty) end after (typed f.name f.ty (end ++ after) p.0 p.1 refl) (put_feed (fields_pieces more) after (fields more after p.2))))))

decl : (d : CoreDecl) (after : List Piece) → ProperDecl d → AreApart (decl_pieces d) after
decl (StructOf s) after p =
    let end = MarkOf (codes "}") ∷ LineFeed ∷ [] in
    let all = fields_pieces s.fields ++ end in
    put_keyword (codes "struct") (Space ∷ (WordOf s.name ∷ (Space ∷ MarkOf (codes "{") ∷ (LineFeed ∷ all)))) after refl refl
    (put_space (WordOf s.name ∷ (Space ∷ MarkOf (codes "{") ∷ (LineFeed ∷ all))) after
    (put_word s.name (Space ∷ MarkOf (codes "{") ∷ (LineFeed ∷ all)) after p.0 refl
    (put_space (MarkOf (codes "{") ∷ (LineFeed ∷ all)) after
    (put_mark (codes "{") (LineFeed ∷ all) after refl refl
    (put_feed all after
    (both (fields_pieces s.fields) end after (fields s.fields (end ++ after) p.1) (put_mark (codes "}") (LineFeed ∷ []) after refl refl (put_feed [] after tt))))))))
decl (FunOf f) after p =
    let last = LineFeed ∷ [] in
    let tail = return_pieces f.result ++ (block_pieces 0 f.body ++ last) in
    let end = MarkOf (codes ")") ∷ tail in
    put_keyword (codes "fun") (Space ∷ (WordOf f.name ∷ (MarkOf (codes "(") ∷ (params_pieces [] f.params ++ end)))) after refl refl
    (put_space (WordOf f.name ∷ (MarkOf (codes "(") ∷ (params_pieces [] f.params ++ end))) after
    (put_word f.name (MarkOf (codes "(") ∷ (params_pieces [] f.params ++ end)) after p.0 refl
    (put_mark (codes "(") (params_pieces [] f.params ++ end) after refl refl
    (both (params_pieces [] f.params) end after (params f.params (end ++ after) p.1 refl)
    (put_mark (codes ")") tail after refl refl
    (both (return_pieces f.result) (block_pieces 0 f.body ++ last) after (returned f.result ((block_pieces 0 f.body ++ last) ++ after) p.2 (closes_body 0 f.body last after))
    (both (block_pieces 0 f.body) last after (block 0 f.body (last ++ after) p.3) (put_feed [] after tt))))))))

decls : (ds : List CoreDecl) (after : List Piece) → ProperDecls ds → AreApart (decls_pieces ds) after
decls [] after p = tt
decls (d ∷ more) after p = both (decl_pieces d) (decls_pieces more) after (decl d (decls_pieces more ++ after) p.0) (decls more after p.1)

pub apart : (tree : Tree) → ProperDecls (core_tree tree).decls → AreApart (Pieces tree) []
apart tree p = decls (core_tree tree).decls [] p

-- ---- no byte order mark at the front

unmarked : (ds : List CoreDecl) → (order_mark (chars_of (decls_pieces ds)) ≡ []) × (body (chars_of (decls_pieces ds)) ≡ chars_of (decls_pieces ds))
unmarked [] = (refl, refl)
unmarked (StructOf s ∷ more) = (refl, refl)
unmarked (FunOf f ∷ more) = (refl, refl)

pub no_order_mark : (tree : Tree) → (order_mark (chars_of (Pieces tree)) ≡ []) × (body (chars_of (Pieces tree)) ≡ chars_of (Pieces tree))
no_order_mark tree = unmarked (core_tree tree).decls
