-- What the parser's outcome on a whole list of tokens says of programs.
use Rattle.std.proofs.Common.{◌≡◌, ℕ, Bool, ◌<◌, ◌≤◌, List, [], ◌∷◌, ◌++◌, length, length-append, Some, ◌⊎◌, inl, inr, refl, sym, ◌∙◌, ap, subst, append-nil, append_assoc, arith}
use Rattle.hv_tree.specs.declared.token.Token.{Token}
use Rattle.hv_tree.specs.declared.ast.Decl.{Decl}
use Rattle.hv_tree.specs.declared.ast.Tree.{Tree}
use Rattle.hv_tree.specs.Tokens.{Tokens}
use Rattle.hv_tree.specs.Grammar.{AreDecls, Spells}
use Rattle.hv_tree.specs.Refusal.{CanGoOn, NotWith, TooManyAt, IsP1, CountsAsP1, most_open}
use Rattle.hv_syn_grammar.specs.Parser.{Parser, Read, Got, Off, Deep, ◌>>=◌, read_then, done}
use Rattle.hv_syn_grammar.specs.Declarations.{decls, program, end_after}
use Rattle.hv_syn_grammar.specs.Room.{room}
use Rattle.hv_syn_exact.specs.Outcomes.{IsProgram, Unfinished, TooManyOpen, Outcome}
use Rattle.hv_syn_exact.proofs.Exact.{Exact, Then, Nothing, then_exact, done_exact, exact_by}
use Rattle.hv_syn_exact.proofs.Shorts.{empty_stops}
use Rattle.hv_syn_exact.proofs.Whole.{IsOnly, Leaves, TooDeep, Answers, answers}
use Rattle.hv_syn_exact.proofs.Rooms.{room_counts, has_room, behind_room, longer_front, less_or}

-- ---- from the outcome of a list of any grammar

behind_all : (d e : ℕ) (ts x y : Tokens) → room d ts ≡ Some e → TooManyAt d ts x y → ⊥
behind_all d e ts x y fits t =
    let h : length ts ≤ length x = behind_room d e ts ts [] x y fits (sym (append-nil ts)) t in
    omega (arith, h, ap length t.is, ap length t.begins, length-append x y)

shorter_goes_on : {A : Type 0} (R : A → Tokens → Type 0) (before x w rest : Tokens) (k : Token) → before ≡ x ++ k ∷ w → CanGoOn R before → NotWith R x (k ∷ rest) → ⊥
shorter_goes_on R before x w rest k is g n =
    n (g.0, w ++ g.1, subst (R g.0) (ap (λ l. l ++ g.1) is ∙ append_assoc x (k ∷ w) g.1 ∙ sym (append_assoc x (k ∷ []) (w ++ g.1))) g.2)

only_program : (ts : Tokens) (tree : Tree) → IsOnly Spells most_open ts tree → IsProgram ts tree
only_program ts tree o = record {
  spells = o.spells;
  only = o.only;
  no_p1 = λ x y p. stops x y p.is p.stops;
  no_p2 = λ x y p. behind_all most_open most_open ts x y o.fits p;
}
  where
    stops : (x y : Tokens) → ts ≡ x ++ y → NotWith Spells x y → ⊥
    stops x [] is n = n tree (subst (Spells tree) (is ∙ append-nil x) o.spells)
    stops x (k ∷ y) is n = n (tree, y, subst (Spells tree) (is ∙ sym (append_assoc x (k ∷ []) y)) o.spells)

left_counts : (ts rest : Tokens) → (l : Leaves Spells most_open ts rest) → CountsAsP1 ts l.before rest
left_counts ts rest l = record {
  violated = l.leaves;
  earlier = λ x y p. behind_room most_open l.left ts l.before rest x y l.fits l.leaves.is p;
}

unfinished : (ts : Tokens) → Leaves Spells most_open ts [] → Unfinished ts
unfinished ts l =
    let flat : l.before ≡ ts = sym (l.leaves.is ∙ append-nil l.before) in
    record {
      counts = subst (λ b. CountsAsP1 ts b []) flat (left_counts ts [] l);
      goes_on = subst (CanGoOn Spells) flat l.leaves.goes_on;
      no_p2 = λ x y p. behind_all most_open l.left ts x y (ap (room most_open) (sym flat) ∙ l.fits) p;
    }

too_many : (ts rest : Tokens) → TooDeep Spells most_open ts rest → TooManyOpen ts rest
too_many ts rest t = record {
  before = t.before;
  bracket = t.bracket;
  after = t.after;
  begins = t.begins;
  counts = record {
    violated = record {
      bracket = t.bracket;
      after = t.after;
      begins = t.begins;
      is = t.is;
      opening = t.opening;
      full = omega (arith, room_counts most_open 0 t.before t.full);
      first = λ x y k is o. has_room most_open 0 t.before x y k t.full is o;
    };
    earlier = λ x y p. by x y p (less_or (length t.before) (length x));
  };
}
  where
    whole : ts ≡ (t.before ++ t.bracket ∷ []) ++ t.after
    whole = t.is ∙ ap (λ r. t.before ++ r) t.begins ∙ sym (append_assoc t.before (t.bracket ∷ []) t.after)

    inside : (x y : Tokens) → IsP1 ts x y → ((k : Token) × (w : Tokens) × (t.before ++ t.bracket ∷ [] ≡ x ++ k ∷ w) × (y ≡ k ∷ (w ++ t.after))) → ⊥
    inside x y p n = shorter_goes_on Spells (t.before ++ t.bracket ∷ []) x n.1 (n.1 ++ t.after) n.0 n.2 t.goes_on (subst (NotWith Spells x) n.3 p.stops)

    by : (x y : Tokens) → IsP1 ts x y → ((length t.before < length x) ⊎ (length x ≤ length t.before)) → length t.before < length x
    by x y p (inl h) = h
    by x y p (inr h) = absurd (inside x y p (longer_front (t.before ++ t.bracket ∷ []) t.after x y (sym whole ∙ p.is) (omega (arith, h, length-append t.before (t.bracket ∷ [])))))

outcome_by : (ts : Tokens) (r : Read Tree) → Answers Spells most_open ts r → Outcome ts r
outcome_by ts (Got tree rest) a = (a.0, only_program ts tree a.1)
outcome_by ts (Off []) a = unfinished ts a
outcome_by ts (Off (k ∷ rest)) a = record { before = a.before; counts = left_counts ts (k ∷ rest) a }
outcome_by ts (Deep rest) a = too_many ts rest a

-- ---- programs

module _ (d : ℕ) (on : Token → Bool) (D : Exact d d on AreDecls (decls d)) where
  abbrev tree_of : List Decl → Parser Tree
  tree_of ds = done (record { decls = ds })

  tree_exact : Exact d d on Spells (decls d >>= tree_of)
  tree_exact =
      exact_by d d on (Then AreDecls (λ ds. Nothing (record { decls = ds }))) Spells _
      (then_exact d d d on on AreDecls (λ ds. Nothing (record { decls = ds })) (decls d) _ D (λ ds. done_exact d on (record { decls = ds })) (λ ds b y rest n h. empty_stops on y rest n.1 h))
      (λ tree ts t. record { decls = subst (λ tree. AreDecls tree.decls ts) (sym t.4.0) (subst (AreDecls t.0) (sym (t.5 ∙ ap (λ y. t.1 ++ y) t.4.1 ∙ append-nil t.1)) t.3) })
      (λ tree ts s. (tree.decls, ts, [], s.decls, (refl, refl), sym (append-nil ts)))

  regroup : (r : Read (List Decl)) → read_then (read_then r tree_of) end_after ≡ read_then r (λ ds. end_after (record { decls = ds }))
  regroup (Got ds ts) = refl
  regroup (Off ts) = refl
  regroup (Deep ts) = refl

  program_answers : (ts : Tokens) → Answers Spells d ts (program d ts)
  unfolding program
  program_answers ts = subst (Answers Spells d ts) (regroup (decls d ts)) (answers d on Spells (decls d >>= tree_of) tree_exact ts)

pub program_outcome : (on : Token → Bool) → Exact most_open most_open on AreDecls (decls most_open) → (ts : Tokens) → Outcome ts (program most_open ts)
program_outcome on D ts = outcome_by ts (program most_open ts) (program_answers most_open on D ts)
