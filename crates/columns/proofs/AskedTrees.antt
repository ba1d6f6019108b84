-- Question 9 over rows is question 9 over the tree whose rows they are. Assumes nothing.
use mathlib.Core.Bool.{Bool, true, false, cond, ◌&&◌}
use mathlib.Core.Path.{◌≡◌, refl, sym, ap, ap₂, ◌∙◌}
use mathlib.Core.List.{List, ◌∷◌, ◌++◌}
use mathlib.Core.Option.{Option, none, some}
use Prim.Native.Nat.{ℕ, zero, suc, ◌+◌, ◌≤◌}
use native.Mathlib.Omega.{arith}
use borrow.Author.Tests.{leb-true, leb-false, lt-ltb, le-ltb}
use lib.Dec.{ltb, leb}
use lib.IntN.{ℤ, pos}
use lib.ListN.{length, get_or, length-append}
use Rattle.arithmetic.specs.Arithmetic.{Operation}
use Rattle.refusals.specs.declared.Refusal.{Refusal}
use Rattle.refusals.specs.declared.Refusal.TheVariants.{OffsetBound}
use Rattle.words.specs.Kinds.{Row}
use Rattle.meaning.specs.Terms.{LoopKind}
use Rattle.meaning.specs.Loops.{Offset, Place, Value, Command, plus, times, over, rest, seq, loop, new}
use Rattle.meaning.specs.Rows.{offset_rows, value_rows, place_rows, command_rows, operation_word, loop_word}
use Rattle.meaning.specs.Runs.{entry}
use Rattle.meaning.specs.Limits.{bound, counter_bound}
use Rattle.syntax.specs.Ranges.{as_natural}
use Rattle.columns.specs.Table.{Stand}
use Rattle.columns.specs.Ends.{Ends}
use Rattle.bounds.specs.Bounds.{every_row_bounded, ask_offset, first_no, ask_value, ask_place, ask_set, ask_command}
use Rattle.bounds.specs.Laws.{row_bounded}
use Rattle.words.specs.Groups.{one_of}
use Rattle.columns.specs.Names.{counter_words, region_words, opens_by, in_force, numbers_of, Named}
use Rattle.columns.specs.Figures.{Figures}
use Rattle.columns.specs.Asking.{cells_by, is_access, no_by, no_at, first_from}
use Rattle.columns.proofs.Tables as table
use Rattle.columns.proofs.EndTrees.{inside}
use Rattle.columns.proofs.Columns.{none_left}
use Rattle.columns.proofs.Operands.{offset_rows_holds, place_rows_holds, value_rows_holds, command_rows_holds, one_first, two_second}
use Rattle.columns.proofs.OffsetBounds.{whole_bound, offset_bound}

-- ---- the first "no" of some rows and then of others

no_first : (a b : Option Refusal) → a ≡ none → first_no a b ≡ b
no_first a b e = ap (λ (x : Option Refusal). first_no x b) e

first_append : (bad : ℕ → Bool) (m n q t i : ℕ) → t ≡ m + n → i ≡ q + m → first_from bad q t ≡ first_no (first_from bad q m) (first_from bad i n)
unfolding first_from
first_append bad zero n q t i e f = ap₂ (first_from bad) (let s : q ≡ i = omega (arith, f) in s) (let s : t ≡ n = omega (arith, e) in s)
first_append bad (suc m) n q zero i e f = absurd (omega (arith, e))
first_append bad (suc m) n q (suc t) i e f = go (first_append bad m n (q + 1) t i (omega (arith, e)) (omega (arith, f))) (bad q)
  where
    go : first_from bad (q + 1) t ≡ first_no (first_from bad (q + 1) m) (first_from bad i n) → (b : Bool) → cond b (some (OffsetBound (q + 1)))
        (first_from bad (q + 1) t) ≡ first_no (cond b (some (OffsetBound (q + 1))) (first_from bad (q + 1) m)) (first_from bad i n)
    go later true = refl
    go later false = later

first_skip : (bad : ℕ → Bool) (q n : ℕ) → bad q ≡ false → first_from bad q (suc n) ≡ first_from bad (q + 1) n
unfolding first_from
first_skip bad q n e = ap (λ (b : Bool). cond b (some (OffsetBound (q + 1))) (first_from bad (q + 1) n)) e

module _ (ks : List ℕ) (ns : List ℤ) (es ms fs : List ℕ) (E : Ends ks es) (F : Figures ks ns es ms fs) (N : Named ks ns es ms) where
  module _ (ins : List ℕ) (out : ℕ) where
    abbrev pub bad : ℕ → Bool
    bad = no_at ks ns ms fs ins out

    quiet : (at k : ℕ) → get_or ks at 0 ≡ k → is_access k ≡ false → bad at ≡ false
    unfolding no_by
    quiet at k e a =
        ap (λ (b : Bool). cond b (cond (ltb 65535 (get_or fs (at + 1) 0)) true
        (leb (cells_by (get_or ks at 0) (as_natural (get_or ns at (pos 0))) (get_or ms at 0) ins out) (get_or fs (at + 1) 0))) false)
        (ap is_access e ∙ a)

    pub skip : (at k n : ℕ) → get_or ks at 0 ≡ k → is_access k ≡ false → first_from bad at (suc n) ≡ first_from bad (at + 1) n
    skip at k n e a = first_skip bad at n (quiet at k e a)

    offset_quiet : (at : ℕ) (o : Offset) → Stand ks ns at (offset_rows o) → first_from bad at (length (offset_rows o)) ≡ none
    unfolding offset_rows is_access first_from
    offset_quiet at (Offset.literal v) s = skip at _ 0 (table.kind s) refl
    offset_quiet at (Offset.counter d) s = skip at _ 0 (table.kind s) refl
    offset_quiet at (plus x y) s =
        skip at _ (length (offset_rows x ++ offset_rows y)) (table.kind s) refl
        ∙ first_append bad (length (offset_rows x)) (length (offset_rows y)) (at + 1) (length (offset_rows x ++ offset_rows y))
        (at + 1 + length (offset_rows x)) (length-append (offset_rows x) (offset_rows y)) refl
        ∙ no_first (first_from bad (at + 1) (length (offset_rows x))) (first_from bad (at + 1 + length (offset_rows x)) (length (offset_rows y)))
        (offset_quiet (at + 1) x (table.first (offset_rows x) (offset_rows y) s))
        ∙ offset_quiet (at + 1 + length (offset_rows x)) y (table.second (offset_rows x) (offset_rows y) (at + 1 + length (offset_rows x)) refl s)
    offset_quiet at (times n x) s = skip at _ (length (offset_rows x)) (table.kind s) refl ∙ offset_quiet (at + 1) x (table.next s)
    offset_quiet at (over n x) s = skip at _ (length (offset_rows x)) (table.kind s) refl ∙ offset_quiet (at + 1) x (table.next s)
    offset_quiet at (rest n x) s = skip at _ (length (offset_rows x)) (table.kind s) refl ∙ offset_quiet (at + 1) x (table.next s)

    no_same : (a : Bool) (x cells : ℕ) (q : Option Refusal) → (a ≡ true → x ≤ 65535)
        → cond (cond (ltb 65535 (cond a x 65536)) true (leb cells (cond a x 65536))) q none ≡ cond (a && ltb x cells) none q
    no_same false x cells q h = refl
    no_same true x cells q h =
        ap (λ (b : Bool). cond (cond b true (leb cells x)) q none) (le-ltb 65535 x (h refl)) ∙ go (leb cells x) refl
      where
        go : (b : Bool) → leb cells x ≡ b → cond b q none ≡ cond (ltb x cells) none q
        go true e = ap (λ (b : Bool). cond b none q) (sym (le-ltb x cells (leb-true cells x e)))
        go false e = ap (λ (b : Bool). cond b none q) (sym (lt-ltb x cells (leb-false cells x e)))

    -- a place or a reading
    access : (at k n cells : ℕ) (z : ℤ) (cs : List ℕ) (o : Offset) → Stand ks ns at ((k, z) ∷ offset_rows o) → 1 ≤ k → is_access k ≡ true
        → opens_by counter_words k ≡ false → get_or es at 0 ≡ at + suc (length (offset_rows o))
        → numbers_of ns (in_force counter_words ks es at) ≡ cs → cells_by k (as_natural z) (get_or ms at 0) ins out ≡ cells
        → first_from bad at (suc (length (offset_rows o))) ≡ ask_offset (counter_bound cs) cells (at + 1) o
    unfolding first_from ask_offset no_by whole_bound
    access at k n cells z cs o s h a p e f g =
        let v = offset_bound ks ns es ms fs E F N (at + 1) cs o (table.next s)
        (ap (numbers_of ns) (one_first ks ns es E counter_words at k z (offset_rows o) false s h p (offset_rows_holds o) e) ∙ f) in
        ap (λ (t : Option Refusal). cond (bad at) (some (OffsetBound (at + 1))) t) (offset_quiet (at + 1) o (table.next s))
        ∙ ap (λ (b : Bool). cond (cond b
        (cond (ltb 65535 (get_or fs (at + 1) 0)) true
        (leb (cells_by (get_or ks at 0) (as_natural (get_or ns at (pos 0))) (get_or ms at 0) ins out) (get_or fs (at + 1) 0))) false)
        (some (OffsetBound (at + 1))) none) (ap is_access (table.kind s) ∙ a)
        ∙ ap₂ (λ (i j : ℕ). cond (cond (ltb 65535 j) true (leb i j)) (some (OffsetBound (at + 1))) none)
        (ap₂ (λ (i : ℕ) (j : ℤ). cells_by i (as_natural j) (get_or ms at 0) ins out) (table.kind s) (table.number s) ∙ g) v
        ∙ no_same (every_row_bounded (counter_bound cs) o) (bound (counter_bound cs) o) cells (some (OffsetBound (at + 1))) (row_bounded (counter_bound cs) o)

    -- a row that is no place and no reading, and its operands
    module _ (at k : ℕ) (z : ℤ) (h : 1 ≤ k) (q : is_access k ≡ false) where
      two_rows : (xs ys : List Row) (a b : Option Refusal) → Stand ks ns at ((k, z) ∷ (xs ++ ys))
          → first_from bad (at + 1) (length xs) ≡ a → first_from bad (at + 1 + length xs) (length ys) ≡ b
          → first_from bad at (suc (length (xs ++ ys))) ≡ first_no a b
      two_rows xs ys a b s e f =
          skip at k (length (xs ++ ys)) (table.kind s) q
          ∙ first_append bad (length xs) (length ys) (at + 1) (length (xs ++ ys)) (at + 1 + length xs) (length-append xs ys) refl
          ∙ ap₂ first_no e f

    -- what is in force: the rounds of the loops and the cells of the regions
    pub record InForce (at : ℕ) (cs rs : List ℕ) : Type 0 where
      pub loops : numbers_of ns (in_force counter_words ks es at) ≡ cs
      pub rooms : numbers_of ns (in_force region_words ks es at) ≡ rs

    same_first : (at k : ℕ) (z : ℤ) (xs : List Row) (cs rs : List ℕ) → Stand ks ns at ((k, z) ∷ xs) → 1 ≤ k → opens_by counter_words k ≡ false
        → opens_by region_words k ≡ false → 1 ≤ length xs → get_or es at 0 ≡ at + suc (length xs) → InForce at cs rs → InForce (at + 1) cs rs
    same_first at k z xs cs rs s h a b l e i = record {
      loops = ap (numbers_of ns) (one_first ks ns es E counter_words at k z xs false s h a l e) ∙ i.loops;
      rooms = ap (numbers_of ns) (one_first ks ns es E region_words at k z xs false s h b l e) ∙ i.rooms;
    }

    same_second : (at k : ℕ) (z : ℤ) (xs ys : List Row) (cs rs : List ℕ) → Stand ks ns at ((k, z) ∷ (xs ++ ys)) → 1 ≤ k → opens_by counter_words k ≡ false
        → opens_by region_words k ≡ false → 1 ≤ length ys → get_or es at 0 ≡ at + suc (length (xs ++ ys)) → get_or es (at + 1) 0 ≡ at + 1 + length xs
        → InForce at cs rs → InForce (at + 1 + length xs) cs rs
    same_second at k z xs ys cs rs s h a b l e f i = record {
      loops = ap (numbers_of ns) (two_second ks ns es E counter_words at k z xs ys (at + 1 + length xs) s h a l e f refl) ∙ i.loops;
      rooms = ap (numbers_of ns) (two_second ks ns es E region_words at k z xs ys (at + 1 + length xs) s h b l e f refl) ∙ i.rooms;
    }

    operating : (o : Operation) → (1 ≤ operation_word o) × (is_access (operation_word o) ≡ false)
        × (opens_by counter_words (operation_word o) ≡ false) × (opens_by region_words (operation_word o) ≡ false)
    unfolding is_access one_of
    operating Operation.addition = (omega arith, refl, refl, refl)
    operating Operation.subtraction = (omega arith, refl, refl, refl)
    operating Operation.multiplication = (omega arith, refl, refl, refl)
    operating Operation.division = (omega arith, refl, refl, refl)
    operating Operation.minimum = (omega arith, refl, refl, refl)
    operating Operation.maximum = (omega arith, refl, refl, refl)

    pub ask_value_holds : (at : ℕ) (cs rs : List ℕ) (v : Value) → Stand ks ns at (value_rows v) → InForce at cs rs
        → first_from bad at (length (value_rows v)) ≡ ask_value ins (counter_bound cs) (entry rs) (at + 1) v
    unfolding value_rows ask_value is_access cells_by one_of
    ask_value_holds at cs rs (Value.input k o) s i =
        access at _ k (entry ins k) _ cs o s (omega arith) refl refl (E.value ns at (Value.input k o) s) i.loops refl
    ask_value_holds at cs rs (Value.region d o) s i =
        access at _ d (entry rs d) _ cs o s (omega arith) refl refl (E.value ns at (Value.region d o) s) i.loops
        (N.region at (inside ks at _ (table.kind s) (omega arith)) (table.kind s) ∙ ap₂ entry i.rooms (ap as_natural (table.number s)))
    ask_value_holds at cs rs (Value.literal v) s i = skip at _ 0 (table.kind s) refl ∙ none_left bad (at + 1)
    ask_value_holds at cs rs (Value.negate v) s i =
        skip at _ (length (value_rows v)) (table.kind s) refl
        ∙ ask_value_holds (at + 1) cs rs v (table.next s)
        (same_first at _ _ (value_rows v) cs rs s (omega arith) refl refl (value_rows_holds v) (E.value ns at (Value.negate v) s) i)
    ask_value_holds at cs rs (Value.operation o v w) s i =
        let p = operating o in
        let c = table.first (value_rows v) (value_rows w) s in
        let d = table.second (value_rows v) (value_rows w) (at + 1 + length (value_rows v)) refl s in
        let e = E.value ns at (Value.operation o v w) s in
        two_rows at _ _ p.0 p.1 (value_rows v) (value_rows w) _ _ s
        (ask_value_holds (at + 1) cs rs v c (same_first at _ _ (value_rows v ++ value_rows w) cs rs s p.0 p.2 p.3
        (omega (arith, length-append (value_rows v) (value_rows w), value_rows_holds v)) e i))
        (ask_value_holds (at + 1 + length (value_rows v)) cs rs w d
        (same_second at _ _ (value_rows v) (value_rows w) cs rs s p.0 p.2 p.3 (value_rows_holds w) e (E.value ns (at + 1) v c) i)
        ∙ ap (λ (l : ℕ). ask_value ins (counter_bound cs) (entry rs) l w)
        (let t : at + 1 + length (value_rows v) + 1 ≡ at + 1 + (1 + length (value_rows v)) = omega arith in t))

    pub ask_place_holds : (at : ℕ) (cs rs : List ℕ) (p : Place) → Stand ks ns at (place_rows p) → InForce at cs rs
        → first_from bad at (length (place_rows p)) ≡ ask_place out (counter_bound cs) (entry rs) (at + 1) p
    unfolding place_rows ask_place is_access cells_by one_of
    ask_place_holds at cs rs (Place.output o) s i =
        access at _ 0 out _ cs o s (omega arith) refl refl (E.place ns at (Place.output o) s) i.loops refl
    ask_place_holds at cs rs (Place.region d o) s i =
        access at _ d (entry rs d) _ cs o s (omega arith) refl refl (E.place ns at (Place.region d o) s) i.loops
        (N.region at (inside ks at _ (table.kind s) (omega arith)) (table.kind s) ∙ ap₂ entry i.rooms (ap as_natural (table.number s)))

    looping : (kind : LoopKind) → (1 ≤ loop_word kind) × (is_access (loop_word kind) ≡ false) × (opens_by counter_words (loop_word kind) ≡ true)
        × (opens_by region_words (loop_word kind) ≡ false)
    unfolding is_access one_of
    looping LoopKind.parallel = (omega arith, refl, refl, refl)
    looping LoopKind.sequential = (omega arith, refl, refl, refl)
    looping LoopKind.lanes = (omega arith, refl, refl, refl)

    pub ask_command_holds : (at : ℕ) (cs rs : List ℕ) (x : Command) → Stand ks ns at (command_rows x) → InForce at cs rs
        → first_from bad at (length (command_rows x)) ≡ ask_command ins out cs rs (at + 1) x
    unfolding command_rows ask_command ask_set is_access one_of
    ask_command_holds at cs rs (Command.assignment p v) s i =
        let c = table.first (place_rows p) (value_rows v) s in
        let d = table.second (place_rows p) (value_rows v) (at + 1 + length (place_rows p)) refl s in
        let e = E.command ns at (Command.assignment p v) s in
        two_rows at _ _ (omega arith) refl (place_rows p) (value_rows v) _ _ s
        (ask_place_holds (at + 1) cs rs p c (same_first at _ _ (place_rows p ++ value_rows v) cs rs s (omega arith) refl refl
        (omega (arith, length-append (place_rows p) (value_rows v), place_rows_holds p)) e i))
        (ask_value_holds (at + 1 + length (place_rows p)) cs rs v d
        (same_second at _ _ (place_rows p) (value_rows v) cs rs s (omega arith) refl refl (value_rows_holds v) e (E.place ns (at + 1) p c) i)
        ∙ ap (λ (l : ℕ). ask_value ins (counter_bound cs) (entry rs) l v)
        (let t : at + 1 + length (place_rows p) + 1 ≡ at + 1 + 1 + length (place_rows p) = omega arith in t))
    ask_command_holds at cs rs (seq x y) s i =
        let c = table.first (command_rows x) (command_rows y) s in
        let d = table.second (command_rows x) (command_rows y) (at + 1 + length (command_rows x)) refl s in
        let e = E.command ns at (seq x y) s in
        two_rows at _ _ (omega arith) refl (command_rows x) (command_rows y) _ _ s
        (ask_command_holds (at + 1) cs rs x c
        (same_first at _ _ (command_rows x ++ command_rows y) cs rs s (omega arith) refl refl
        (omega (arith, length-append (command_rows x) (command_rows y), command_rows_holds x)) e i))
        (ask_command_holds (at + 1 + length (command_rows x)) cs rs y d
        (same_second at _ _ (command_rows x) (command_rows y) cs rs s (omega arith) refl refl (command_rows_holds y) e (E.command ns (at + 1) x c) i)
        ∙ ap (λ (l : ℕ). ask_command ins out cs rs l y) (let t : at + 1 + length (command_rows x) + 1 ≡ at + 1 + (1 + length (command_rows x)) = omega arith in t))
    ask_command_holds at cs rs (loop kind n x) s i =
        let p = looping kind in
        let e = E.command ns at (loop kind n x) s in
        skip at _ (length (command_rows x)) (table.kind s) p.1
        ∙ ask_command_holds (at + 1) (n ∷ cs) rs x (table.next s) (record {
          loops = ap (numbers_of ns) (one_first ks ns es E counter_words at _ _ (command_rows x) true s p.0 p.2 (command_rows_holds x) e)
              ∙ ap₂ (λ (j : ℕ) (l : List ℕ). j ∷ l) (ap as_natural (table.number s)) i.loops;
          rooms = ap (numbers_of ns) (one_first ks ns es E region_words at _ _ (command_rows x) false s p.0 p.3 (command_rows_holds x) e) ∙ i.rooms;
        })
    ask_command_holds at cs rs (new n x) s i =
        let e = E.command ns at (new n x) s in
        skip at _ (length (command_rows x)) (table.kind s) refl
        ∙ ask_command_holds (at + 1) cs (n ∷ rs) x (table.next s) (record {
          loops = ap (numbers_of ns) (one_first ks ns es E counter_words at _ _ (command_rows x) false s (omega arith) refl (command_rows_holds x) e) ∙ i.loops;
          rooms = ap (numbers_of ns) (one_first ks ns es E region_words at _ _ (command_rows x) true s (omega arith) refl (command_rows_holds x) e)
              ∙ ap₂ (λ (j : ℕ) (l : List ℕ). j ∷ l) (ap as_natural (table.number s)) i.rooms;
        })
