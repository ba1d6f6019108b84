-- Answers on a term: what they tell, how they follow one another, and how a row's own type comes to be noted.
use mathlib.Core.Path.{◌≡◌, refl, ap, sym, subst, ◌∙◌}
use mathlib.Core.List.{List}
use Prim.Native.Nat.{ℕ, ◌+◌, ◌≤◌, ◌<◌}
use native.Mathlib.Omega.{arith}
use native.Mathlib.Nat.{add-zero}
use lib.ListN.{length, get_or, set, drop, length-append, length-set}
use lib.Seq.{drop-drop, drop-set-lt, get_or-drop, get_or-set_same, get_or-set_other}
use Rattle.refusals.specs.declared.Refusal.{Refusal}
use Rattle.meaning.specs.Types.{DataType}
use Rattle.meaning.specs.Terms.{Term}
use Rattle.meaning.specs.Typing.{type_of}
use Rattle.meaning.specs.Rows.{term_rows}
use Rattle.syntax.specs.Standing.{operand_count, first_operand, second_operand}
use Rattle.syntax.proofs.TermRows.{term_head, behind_first, first_rows, behind_second, second_rows}
use Rattle.syntax.proofs.Front.{part, part_length}
use Rattle.type_table.specs.Table.{type_at}
use Rattle.type_table.specs.Columns.{Names, Noted}
use Rattle.typing.specs.Check.{Verdict, refused, check}
use Rattle.type_rules.specs.Rules.{Found, Grown}
use Rattle.type_rules.specs.Scopes.{InForce}
use Rattle.row_typing.specs.Terms.{Place, Kept, TermFound, place_found, with_type}
use Rattle.std.specs.Prelude.{Result, Ok, Err}
use Rattle.type_rules.specs.declared.Typed.{Typed}
use Rattle.type_rules.specs.Rules.{type_found}
use Rattle.type_rules.specs.declared.scope.Scope.{Scope}
use Rattle.type_rules.proofs.Found.{found_on, room_less, room_grown}
use Rattle.row_typing.proofs.TermLaws.{checked_type}
use Rattle.row_typing.proofs.NotedLaws.{names_on}

pub some_rows : (e : Term) → 1 ≤ length (term_rows e)
some_rows e = omega (arith, ap length (term_head e))

-- the rows of a term of two operands or three
pub operands_within : (e : Term) → 2 ≤ operand_count e
    → 1 + length (term_rows (first_operand e)) + length (term_rows (second_operand e)) ≤ length (term_rows e)
operands_within e h =
    omega (
      arith,
      ap length (term_head e),
      ap length (first_rows e (omega arith)),
      length-append (term_rows (first_operand e)) (behind_first e),
      ap length (second_rows e h),
      length-append (term_rows (second_operand e)) (behind_second e),
    )

pub at_line : (I Γ : List DataType) (e : Term) (v : Verdict) (i j : ℕ) → i ≡ j → check I Γ e i ≡ v → check I Γ e j ≡ v
at_line I Γ e v i j h k = subst (λ (x : ℕ). check I Γ e x ≡ v) h k

-- ---- the table grown, a part of the rows

pub force_on : {T U : List ℕ} {m l : ℕ} {s : Scope} {I Γ : List DataType} → Grown T m U l → InForce T m s I Γ → InForce U l s I Γ
force_on G F = record {
  inputs = λ k h. names_on G refl (F.inputs k h);
  variables = λ d h. names_on G refl (F.variables d h);
  count = F.count;
  few = F.few;
  deep = F.deep;
  long = F.long;
}

pub place_part : {ks T C : List ℕ} {m row n : ℕ} (a k : ℕ) → Place ks T m C row n → a ≤ length ks → k ≤ n → Place (part a ks) T m C (row + a) k
place_part {ks} a k P h less = record {
  room = room_less P.room less;
  some = P.some;
  number = P.number;
  column = omega (arith, P.column, part_length a ks);
  few = omega (arith, P.few, part_length a ks);
}

pub place_on : {ks T U C D : List ℕ} {m l row : ℕ} (n k : ℕ) → Place ks T m C row n → Grown T m U l → length D ≡ length C → l + k ≤ m + n
    → Place ks U l D row k
place_on n k P G size h = record {
  room = room_grown n k P.room G h;
  some = omega (arith, P.some, G.more);
  number = G.kept 0 P.some ∙ P.number;
  column = omega (arith, P.column);
  few = P.few;
}

pub kept_on : {C D E : List ℕ} {i j a b : ℕ} → Kept C D i a → Kept D E j b → j ≤ i → i + a ≤ j + b → Kept C E j b
kept_on K L h k = record {
  size = L.size ∙ K.size;
  before = λ x l. L.before x l ∙ K.before x (omega arith);
  behind = λ x l. L.behind x l ∙ K.behind x (omega arith);
}

-- ---- what an answer tells

module _ (T : List ℕ) (m : ℕ) (C U D : List ℕ) (row : ℕ) (I Γ : List DataType) (e : Term) (n : ℕ) (v : Verdict) (r : Result Typed Refusal) where
  pub term_was_no : (q : Refusal) → r ≡ Err q → TermFound T m C U D row I Γ e n v r → v ≡ refused q
  term_was_no q h k = subst (TermFound T m C U D row I Γ e n v) h k

  pub term_was : (p a l : ℕ) → r ≡ type_found p a l → TermFound T m C U D row I Γ e n v r
      → Found T m U n (length (term_rows e)) v (type_found p a l) × Noted U l I Γ e (drop row D) × Kept C D row (length (term_rows e))
  term_was p a l h k = subst (TermFound T m C U D row I Γ e n v) h k

-- an answer behind some rows of the term, said of the table and the column before them
pub term_on : (T : List ℕ) (m : ℕ) (C U : List ℕ) (l : ℕ) (D X E : List ℕ) (row : ℕ) (I Γ : List DataType) (e : Term) (n k i a : ℕ) (v : Verdict) (r : Result Typed Refusal)
    → Grown T m U l → Kept C D i a → row ≤ i → i + a ≤ row + length (term_rows e) → k ≤ n
    → TermFound U l D X E row I Γ e k v r → TermFound T m C X E row I Γ e n v r
term_on T m C U l D X E row I Γ e n k i a v (Ok t) G K h h' less F =
    (found_on T m U l X k n (length (term_rows e)) v v (Ok t) G less refl F.0, F.1, kept_on K F.2 h h')
term_on T m C U l D X E row I Γ e n k i a v (Err q) G K h h' less F = F

-- a place is small enough for the column
pub place_small : (T : List ℕ) (m : ℕ) (U : List ℕ) (n rows : ℕ) (v : Verdict) (r : Result Typed Refusal) → Found T m U n rows v r → place_found r < 65536
place_small T m U n rows v (Ok t) F = omega (arith, F.2, F.4.sound.few)
place_small T m U n rows v (Err q) F = omega arith

-- the column behind a row whose type was noted
pub behind_set : (D : List ℕ) (row p : ℕ) → drop 1 (drop row (set D row p)) ≡ drop (row + 1) D
behind_set D row p = drop-drop 1 row (set D row p) ∙ drop-set-lt (row + 1) D row p (omega arith)

-- ---- a row's own type noted, those of its operands being so

module _ (T : List ℕ) (m : ℕ) (C U : List ℕ) (l : ℕ) (D X : List ℕ) (row : ℕ) (I Γ : List DataType) (e : Term) (n k : ℕ) (w : Verdict)
    (G : Grown T m U l) (less : k ≤ n) (same : check I Γ e (row + 1) ≡ w) (K : Kept C D row (length (term_rows e))) (inside : row < length C)
    (note : (p j : ℕ) → Grown U l X j → Names X j (get_or (drop row (set D row p)) 0 0) (type_of I Γ e) → Noted X j I Γ e (drop row (set D row p))) where
  here : (p : ℕ) → get_or (drop row (set D row p)) 0 0 ≡ p
  here p =
      get_or-drop row (set D row p) 0 0 ∙ ap (λ (i : ℕ). get_or (set D row p) i 0) (add-zero row)
      ∙ get_or-set_same D row p 0 (omega (arith, K.size))

  kept_here : (p : ℕ) → Kept C (set D row p) row (length (term_rows e))
  kept_here p = record {
    size = length-set D row p ∙ K.size;
    before = λ i h. get_or-set_other D row i p 0 (λ q. omega arith) ∙ K.before i h;
    behind = λ i h. get_or-set_other D row i p 0 (λ q. omega (arith, some_rows e)) ∙ K.behind i h;
  }

  answered : (a : Result Typed Refusal) → Found U l X k (length (term_rows e)) w a → TermFound T m C X (with_type D row a) row I Γ e n (check I Γ e (row + 1)) a
  answered (Ok t) F = (
    found_on T m U l X k n (length (term_rows e)) (check I Γ e (row + 1)) w (Ok t) G less same F,
    note t.place t.len F.4 (omega (arith, here t.place, F.2), ap (type_at X) (here t.place) ∙ sym (checked_type I Γ e (row + 1) _ (same ∙ F.0))),
    kept_here t.place,
  )
  answered (Err q) F = same ∙ F

  pub noted_row : (a r : Result Typed Refusal) (E : List ℕ) (rows : ℕ) → rows ≡ length (term_rows e) → Found U l X k rows w a → r ≡ a → E ≡ with_type D row a
      → TermFound T m C X E row I Γ e n (check I Γ e (row + 1)) r
  noted_row a r E rows h F f g =
      subst (TermFound T m C X E row I Γ e n (check I Γ e (row + 1))) (sym f)
      (subst (λ (Y : List ℕ). TermFound T m C X Y row I Γ e n (check I Γ e (row + 1)) a) (sym g)
      (answered a (subst (λ (x : ℕ). Found U l X k x w a) h F)))
