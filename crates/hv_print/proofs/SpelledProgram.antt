-- The tokens of a printed program spell it, places aside.
use Rattle.std.proofs.Common.{ℕ, ◌+◌, length, List, [], ◌∷◌, ◌++◌, map, codes, refl, ap, ◌∙◌, append-nil}
use Rattle.hv_tree.specs.declared.types.Name.{Name}
use Rattle.hv_tree.specs.declared.ast.Decl.{Decl}
use Rattle.hv_tree.specs.declared.ast.Decl.TheVariants as decl
use Rattle.hv_tree.specs.declared.ast.Field.{Field}
use Rattle.hv_tree.specs.declared.ast.Tree.{Tree}
use Rattle.hv_tree.specs.Tokens.{mark, keyword, word}
use Rattle.hv_tree.specs.Grammar.{no_semicolon, AreFields, no_fields, more_fields, IsDecl, struct_decl, fun_decl, AreDecls, no_decls, more_decls, Spells}
use Rattle.hv_tree.specs.Core.{CoreTy, CoreField, CoreDecl, StructOf, FunOf, Core, core_field, core_decl, core_tree}
use Rattle.hv_print.specs.Aside.{name_aside, param_aside, result_aside, field_aside, decl_aside, Aside}
use Rattle.hv_print.specs.Pieces.{LineFeed, MarkOf, here, placed, tokens_of, ty_pieces, params_pieces, return_pieces, block_pieces, fields_pieces, decl_pieces, decls_pieces, Pieces}
use Rattle.hv_print.proofs.Proper.{ProperDecl, ProperDecls}
use Rattle.hv_print.proofs.SpelledTypes.{Reads, behind, split, of_ty}
use Rattle.hv_print.proofs.SpelledParts.{of_params, of_return, seen_result}
use Rattle.hv_print.proofs.SpelledNodes.{seen_block}
use Rattle.hv_print.proofs.SpelledExprs.{of_block}

abbrev seen_fields : List Field → List CoreField
seen_fields fs = map field_aside (map core_field fs)

abbrev field_of : Name → CoreTy → CoreField
field_of name t = record { name = name_aside name; ty = t }

of_fields : (at : ℕ) (fs : List CoreField) → Reads AreFields seen_fields (tokens_of at (fields_pieces fs)) (map field_aside fs)
of_fields at [] = record { tree = []; spelled = no_fields refl refl; same = refl }
of_fields at (f ∷ more) =
    let a0 = at + 1 + 1 in
    let a1 = a0 + 3 + 1 in
    let a2 = a1 + length f.name.text + 1 + 1 in
    let a3 = behind a2 (ty_pieces f.ty) + 1 in
    let r = (of_ty a2 f.ty).any in
    let m = of_fields a3 more in
    record {
      tree = record { name = placed a1 f.name; ty = r.tree } ∷ m.tree;
      spelled = more_fields (here a0) (here (a1 + length f.name.text)) (placed a1 f.name) r.tree m.tree (tokens_of a2 (ty_pieces f.ty)) [] (tokens_of a3 (fields_pieces more)) r.spelled (no_semicolon refl) m.spelled refl
          (ap (λ t. keyword (codes "var") (here a0) ∷ word (placed a1 f.name) ∷ mark (codes ":") (here (a1 + length f.name.text)) ∷ t) (split a2 (ty_pieces f.ty) (LineFeed ∷ fields_pieces more)));
      same = ap (λ t. field_of f.name t ∷ seen_fields m.tree) r.same ∙ ap (λ fs. field_aside f ∷ fs) m.same;
    }

abbrev seen_decl : Decl → CoreDecl
seen_decl d = decl_aside (core_decl d)

of_decl : (at : ℕ) (d : CoreDecl) → ProperDecl d → Reads IsDecl seen_decl (tokens_of at (decl_pieces d)) (decl_aside d)
of_decl at (StructOf s) p =
    let a1 = at + 6 + 1 in
    let left = a1 + length s.name.text + 1 in
    let a2 = left + 1 + 1 in
    let r = of_fields a2 s.fields in
    record {
      tree = decl.Struct (record { name = placed a1 s.name; fields = r.tree });
      spelled = struct_decl (here at) (here left) (here (behind a2 (fields_pieces s.fields))) (placed a1 s.name) r.tree (tokens_of a2 (fields_pieces s.fields)) r.spelled refl
          (ap (λ t. keyword (codes "struct") (here at) ∷ word (placed a1 s.name) ∷ mark (codes "{") (here left) ∷ t) (split a2 (fields_pieces s.fields) (MarkOf (codes "}") ∷ LineFeed ∷ [])));
      same = ap (λ fs. StructOf (record { name = name_aside s.name; fields = fs })) r.same;
    }
of_decl at (FunOf f) p =
    let a1 = at + 3 + 1 in
    let left = a1 + length f.name.text in
    let a2 = left + 1 in
    let right = behind a2 (params_pieces [] f.params) in
    let a3 = right + 1 in
    let a4 = behind a3 (return_pieces f.result) in
    let m = of_params a2 f.params in
    let r = of_return a3 f.result in
    let b = of_block a4 0 f.body p.3 in
    record {
      tree = decl.Fun (record { name = placed a1 f.name; params = m.tree; result = r.tree; body = b.tree });
      spelled = fun_decl (here at) (here left) (here right) (placed a1 f.name) m.tree r.tree b.tree (tokens_of a2 (params_pieces [] f.params)) (tokens_of a3 (return_pieces f.result)) (tokens_of a4 (block_pieces 0 f.body)) m.spelled r.spelled b.spelled refl
          (ap (λ t. keyword (codes "fun") (here at) ∷ word (placed a1 f.name) ∷ mark (codes "(") (here left) ∷ t)
          (split a2 (params_pieces [] f.params) _ ∙ ap (λ t. tokens_of a2 (params_pieces [] f.params) ++ mark (codes ")") (here right) ∷ t)
          (split a3 (return_pieces f.result) (block_pieces 0 f.body ++ LineFeed ∷ []) ∙ ap (λ t. tokens_of a3 (return_pieces f.result) ++ t)
          (split a4 (block_pieces 0 f.body) (LineFeed ∷ []) ∙ append-nil (tokens_of a4 (block_pieces 0 f.body))))));
      same = ap (λ ps. FunOf (record { name = name_aside f.name; params = ps; result = seen_result r.tree; body = seen_block b.tree })) m.same
          ∙ ap (λ t. FunOf (record { name = name_aside f.name; params = map param_aside f.params; result = t; body = seen_block b.tree })) r.same
          ∙ ap (λ b. FunOf (record { name = name_aside f.name; params = map param_aside f.params; result = result_aside f.result; body = b })) b.same;
    }

abbrev seen_decls : List Decl → List CoreDecl
seen_decls ds = map decl_aside (map core_decl ds)

of_decls : (at : ℕ) (ds : List CoreDecl) → ProperDecls ds → Reads AreDecls seen_decls (tokens_of at (decls_pieces ds)) (map decl_aside ds)
of_decls at [] p = record { tree = []; spelled = no_decls refl refl; same = refl }
of_decls at (d ∷ more) p =
    let r = of_decl at d p.0 in
    let m = of_decls (behind at (decl_pieces d)) more p.1 in
    record {
      tree = r.tree ∷ m.tree;
      spelled = more_decls r.tree m.tree (tokens_of at (decl_pieces d)) _ r.spelled m.spelled refl (split at (decl_pieces d) (decls_pieces more));
      same = ap (λ d. d ∷ seen_decls m.tree) r.same ∙ ap (λ ds. decl_aside d ∷ ds) m.same;
    }

abbrev of_core : List CoreDecl → Core
of_core ds = record { decls = ds }

pub of_program : (tree : Tree) → ProperDecls (core_tree tree).decls → Reads Spells Aside (tokens_of 0 (Pieces tree)) (Aside tree)
of_program tree p =
    let r = of_decls 0 (core_tree tree).decls p in
    record { tree = record { decls = r.tree }; spelled = record { decls = r.spelled }; same = ap of_core r.same }
