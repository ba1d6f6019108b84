-- [18.15] Loops that are in range but for question 18: the walk passes their rows, or question 18 turns one of them away. Assumes nothing.
use Rattle.std.specs.Prelude.{◌≡◌, Bool, true, false, cond, ◌⊎◌, leb, ℤ, Ok, Err, Some}
use Rattle.std.proofs.Math.Path.{refl, ap}
use Rattle.std.proofs.Common.{sym, ◌∙◌, inl, zero-add, add-zero, le-leb, leb-true}
use Rattle.std.proofs.Math.Logic.{inr}
use mathlib.Core.List.{List, [], ◌∷◌, ◌++◌, append_assoc, append-nil}
use Prim.Native.Nat.{ℕ, suc, ◌+◌, ◌≤◌}
use native.Mathlib.Omega.{arith}
use Rattle.std.proofs.Math.IntN.{pos}
use Rattle.std.proofs.Math.ListN.{length}
use Rattle.refusals.specs.declared.Refusal.TheVariants.{LineForm, LanesInside}
use Rattle.refusals.specs.Answers.{after, Answer}
use Rattle.words.specs.Kinds.{Row, word_loops, word_cells, word_seq, word_for, word_par, word_new, word_lanes}
use Rattle.words.specs.Groups.{is_listed, one_of}
use Rattle.words.proofs.Laws.{word_listed}
use Rattle.words.specs.Words.{operands_of, table}
use Rattle.words.specs.declared.Sort.TheVariants as sort
use Rattle.meaning.specs.Terms.{LoopKind}
use Rattle.meaning.specs.Loops.{Command, Loops, seq, loop, new}
use Rattle.meaning.specs.Limits.{IsCount, IsWidth}
use Rattle.meaning.specs.Rows.{command_rows, all_cells_rows, loops_rows}
use Rattle.syntax.specs.declared.names.Names.{Names}
use Rattle.syntax.specs.declared.operands.Due.{Due}
use Rattle.syntax.specs.Ranges.{as_natural, in_range}
use Rattle.syntax.specs.Names.{no_names, opened_by, names_fit, lanes_fit, Bounded}
use Rattle.syntax.specs.Operands.{inputs_counted, due, operand_of, operands_due}
use Rattle.syntax.specs.Walk.{walk_from, listed_from, walk_table}
use Rattle.syntax.specs.InRange.{CommandInRange, AllCounts}
use Rattle.syntax.specs.Laws.Ask.{ask_lanes, ask_passed, bounded_fit, bounded_apart}
use Rattle.syntax.specs.Laws.Heads.{copies, copies_more, operands_copies}
use Rattle.syntax.specs.Laws.Listed.{walk_listed}
use Rattle.syntax.specs.Laws.Pass.{Passes, none, both, row, count_in_holds, width_in, inputs_only, small}
use Rattle.syntax.specs.Laws.PassLoops.{more_counters, more_regions, C, pass_command}

-- [10.2] every kind is that of a word
abbrev Listed : List Row → Type 0
Listed a = (q : ℕ) (v : Answer) → listed_from q a v ≡ v

-- question 18 turns a row away, whatever is due and stands behind
abbrev TurnedAway : List Due → List Row → Type 0
TurnedAway os a = (p : ℕ) (ds : List Due) (R : List Row) → (l : ℕ) × (walk_from p (os ++ ds) (a ++ R) ≡ Err (LanesInside l))

record Walked (os : List Due) (a : List Row) : Type 0 where
  listed : Listed a
  ends : Passes os a ⊎ TurnedAway os a

-- ---- rows that pass, and rows behind one another

passing : (os : List Due) (a : List Row) → Passes os a → Walked os a
unfolding walk_from
passing os a f = record {
  listed = walk_listed a 0 (length a) os
      (sym (ap (walk_from 0 os) (append-nil a)) ∙ sym (ap (λ (ds : List Due). walk_from 0 ds (a ++ [])) (append-nil os)) ∙ f 0 [] [] ∙ ap Ok (zero-add (length a)));
  ends = inl f;
}

listed_append : (a R : List Row) (q : ℕ) (v : Answer) → listed_from q (a ++ R) v ≡ listed_from q a (listed_from (q + length a) R v)
unfolding listed_from
listed_append [] R q v = ap (λ (n : ℕ). listed_from n R v) (sym (add-zero q))
listed_append (r ∷ a) R q v =
    let e : suc q + length a ≡ q + suc (length a) = omega arith in
    ap (λ (x : Answer). cond (is_listed r.0) x (Err (LineForm (suc q))))
    (listed_append a R (suc q) v ∙ ap (λ (n : ℕ). listed_from (suc q) a (listed_from n R v)) e)

listed_row : (k : ℕ) (z : ℤ) (a : List Row) → is_listed k ≡ true → Listed a → Listed ((k, z) ∷ a)
unfolding listed_from
listed_row k z a e f q v = ap (λ (b : Bool). cond b (listed_from (suc q) a v) (Err (LineForm (suc q)))) e ∙ f (suc q) v

both_walked : (d : Due) (os : List Due) (a b : List Row) → Walked (d ∷ []) a → Walked os b → Walked (d ∷ os) (a ++ b)
both_walked d os a b f g = record {
  listed = λ q v. listed_append a b q v ∙ f.listed q _ ∙ g.listed (q + length a) v;
  ends = go f.ends g.ends;
}
  where
    go : Passes (d ∷ []) a ⊎ TurnedAway (d ∷ []) a → Passes os b ⊎ TurnedAway os b → Passes (d ∷ os) (a ++ b) ⊎ TurnedAway (d ∷ os) (a ++ b)
    go (inl x) (inl y) = inl (both d os a b x y)
    go (inl x) (inr y) = inr (λ p ds R.
        let t = y (p + length a) ds R in
        (t.0, ap (walk_from p (d ∷ (os ++ ds))) (append_assoc a b R) ∙ x p (os ++ ds) (b ++ R) ∙ t.1))
    go (inr x) y = inr (λ p ds R.
        let t = x p (os ++ ds) (b ++ R) in
        (t.0, ap (walk_from p (d ∷ (os ++ ds))) (append_assoc a b R) ∙ t.1))

-- ---- a row, and its operands

module _ (d : Due) (k : ℕ) (z : ℤ) (c : ℕ) (a : List Row) (of : operands_of k d.sort ≡ Some c)
    (r : in_range d.sort d.names k (as_natural z) ≡ true) where
  -- the names that it opens
  abbrev M : Names
  M = opened_by k (as_natural z) d.names

  abbrev behind : ℕ → List Due → List Row → ℕ → Answer
  behind p ds R m = walk_from (suc p) (operands_due d k (as_natural z) m ++ ds) (a ++ R)

  row_listed : Listed a → Listed ((k, z) ∷ a)
  row_listed f = listed_row k z a (word_listed k d.sort c of) f

  row_walked : Bounded M → Walked (operands_due d k (as_natural z) (inputs_counted d.sort (as_natural z) + c)) a → Walked (d ∷ []) ((k, z) ∷ a)
  unfolding walk_from
  row_walked b f = record { listed = row_listed f.listed; ends = go f.ends }
    where
      os : List Due
      os = operands_due d k (as_natural z) (inputs_counted d.sort (as_natural z) + c)

      go : Passes os a ⊎ TurnedAway os a → Passes (d ∷ []) ((k, z) ∷ a) ⊎ TurnedAway (d ∷ []) ((k, z) ∷ a)
      go (inl x) = inl (row d k z c a of r b x)
      go (inr x) = inr (λ p ds R.
          let t = x (suc p) ds R in
          (t.0, ap (λ (y : Answer). after y (behind p ds R)) (sym (ask_passed d k (as_natural z) (suc p) of r (bounded_fit M b) (bounded_apart M b))) ∙ t.1))

  row_away : names_fit M ≡ true → lanes_fit M ≡ false → Listed a → Walked (d ∷ []) ((k, z) ∷ a)
  unfolding walk_from
  row_away f g h = record {
    listed = row_listed h;
    ends = inr (λ p ds R. (suc p, ap (λ (y : Answer). after y (behind p ds R)) (sym (ask_lanes d k (as_natural z) (suc p) of r f g))));
  }

-- ---- commands

-- under one counter more
opened : (N : Names) (l : ℕ) → Bounded N → N.counters + 1 ≤ 32 → l ≤ 1 → Bounded (more_counters N l)
opened N l b h g = record { variables_fit = b.variables_fit; counters_fit = h; regions_fit = b.regions_fit; lanes_fit = g }

-- a `lanes` row: in another it is turned away
lanes_walked : (N : Names) → Bounded N → (n : ℕ) → IsWidth n → N.counters + 1 ≤ 32 → (a : List Row) → Listed a
    → (Bounded (more_counters N (N.lanes + 1)) → Walked (C (more_counters N (N.lanes + 1)) ∷ []) a) → Walked (C N ∷ []) ((word_lanes, pos n) ∷ a)
unfolding operands_of table operands_due operand_of opened_by in_range one_of
lanes_walked N b n w h a f g = go (leb (N.lanes + 1) 1) refl
  where
    go : (x : Bool) → leb (N.lanes + 1) 1 ≡ x → Walked (C N ∷ []) ((word_lanes, pos n) ∷ a)
    go true e =
        let m = opened N (N.lanes + 1) b h (leb-true (N.lanes + 1) 1 e) in
        row_walked (C N) word_lanes (pos n) 1 a refl (width_in n w) m (g m)
    go false e =
        row_away (C N) word_lanes (pos n) 1 a refl (width_in n w) (bounded_fit (more_counters N 0) (opened N 0 b h (omega arith))) e f

command_walked : (N : Names) → Bounded N → (c : Command) → CommandInRange N.inputs N.counters N.regions c → Walked (C N ∷ []) (command_rows c)
unfolding command_rows operands_of table operands_due operand_of opened_by in_range one_of
command_walked N b (Command.assignment p v) h = passing (C N ∷ []) _ (pass_command N b (Command.assignment p v) h tt)
command_walked N b (seq c d) h =
    row_walked (C N) word_seq (pos 0) 2 (command_rows c ++ command_rows d) refl refl b
    (both_walked (C N) (C N ∷ []) (command_rows c) (command_rows d) (command_walked N b c h.0) (command_walked N b d h.1))
command_walked N b (loop LoopKind.parallel n c) h =
    let e = opened N N.lanes b h.1 b.lanes_fit in
    row_walked (C N) word_par (pos n) 1 (command_rows c) refl (count_in_holds n h.0) e (command_walked (more_counters N N.lanes) e c h.2)
command_walked N b (loop LoopKind.sequential n c) h =
    let e = opened N N.lanes b h.1 b.lanes_fit in
    row_walked (C N) word_for (pos n) 1 (command_rows c) refl (count_in_holds n h.0) e (command_walked (more_counters N N.lanes) e c h.2)
command_walked N b (loop LoopKind.lanes n c) h =
    let e = opened N N.lanes b h.1 b.lanes_fit in
    lanes_walked N b n h.0 h.1 (command_rows c) (command_walked (more_counters N N.lanes) e c h.2).listed
    (λ m. command_walked (more_counters N (N.lanes + 1)) m c h.2)
command_walked N b (new n c) h =
    let M = more_regions N in
    let e : Bounded M = record { variables_fit = b.variables_fit; counters_fit = b.counters_fit; regions_fit = h.1; lanes_fit = b.lanes_fit } in
    row_walked (C N) word_new (pos n) 1 (command_rows c) refl (count_in_holds n h.0) e (command_walked M e c h.2)

-- ---- loops

abbrev D : Due
D = due sort.Cells no_names

cells_walked : (n : ℕ) → IsCount n → Walked (D ∷ []) ((word_cells, pos n) ∷ [])
unfolding operands_of table operands_due operand_of opened_by in_range one_of
cells_walked n h = row_walked D word_cells (pos n) 0 [] refl (count_in_holds n h) (small 0) (passing [] [] none)

all_cells_walked : (os : List Due) (b : List Row) → Walked os b → (ns : List ℕ) → AllCounts ns
    → Walked (copies (length ns) D ++ os) (all_cells_rows ns ++ b)
unfolding copies all_cells_rows
all_cells_walked os b f [] h = f
all_cells_walked os b f (n ∷ ns) h =
    both_walked D (copies (length ns) D ++ os) ((word_cells, pos n) ∷ []) (all_cells_rows ns ++ b) (cells_walked n h.0) (all_cells_walked os b f ns h.1)

module _ (L : Loops) (few : length L.inputs ≤ 8) (cells : AllCounts L.inputs) (out : IsCount L.output)
    (command : CommandInRange (length L.inputs) 0 0 L.command) where
  loops_walked : Walked (due sort.Loops no_names ∷ []) (loops_rows L)
  unfolding loops_rows operands_of table opened_by in_range one_of operand_of
  loops_walked =
      let K = length L.inputs in
      let e : K + 2 ≡ suc (suc K) = omega arith in
      row_walked (due sort.Loops no_names) word_loops (pos K) 2 (all_cells_rows L.inputs ++ ((word_cells, pos L.output) ∷ command_rows L.command)) refl (le-leb K 8 few) (small K)
      (rw (e, operands_copies (due sort.Loops no_names) word_loops K (suc K), copies_more K D (C (inputs_only K) ∷ []))
      (all_cells_walked (D ∷ C (inputs_only K) ∷ []) ((word_cells, pos L.output) ∷ command_rows L.command)
      (both_walked D (C (inputs_only K) ∷ []) ((word_cells, pos L.output) ∷ []) (command_rows L.command) (cells_walked L.output out)
      (command_walked (inputs_only K) (small K) L.command command))
      L.inputs cells))

  pub lanes_asked : (walk_table sort.Loops (loops_rows L) ≡ Ok (length (loops_rows L)))
      ⊎ ((l : ℕ) × (walk_table sort.Loops (loops_rows L) ≡ Err (LanesInside l)))
  unfolding walk_table walk_from
  lanes_asked = go loops_walked.ends
    where
      R : List Row
      R = loops_rows L

      whole : walk_table sort.Loops R ≡ walk_from 0 (due sort.Loops no_names ∷ []) (R ++ [])
      whole = loops_walked.listed 0 _ ∙ ap (walk_from 0 (due sort.Loops no_names ∷ [])) (sym (append-nil R))

      go : Passes (due sort.Loops no_names ∷ []) R ⊎ TurnedAway (due sort.Loops no_names ∷ []) R
          → (walk_table sort.Loops R ≡ Ok (length R)) ⊎ ((l : ℕ) × (walk_table sort.Loops R ≡ Err (LanesInside l)))
      go (inl x) = inl (whole ∙ x 0 [] [] ∙ ap Ok (zero-add (length R)))
      go (inr x) = let t = x 0 [] [] in inr (t.0, whole ∙ t.1)
