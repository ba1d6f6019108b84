-- What `fill` knows at each way out. Assumes nothing.
use Rattle.std.specs.Prelude.{Ok, Err}
use mathlib.Core.Path.{◌≡◌, refl, sym, ap, ◌∙◌}
use mathlib.Core.Bool.{Bool, true, false, cond}
use mathlib.Core.List.{List}
use Prim.Native.Nat.{ℕ, ◌≤◌, ◌<◌}
use native.Mathlib.Omega.{arith}
use borrow.Author.Tests.{le-leb, lt-leb}
use lib.Dec.{leb}
use lib.IntN.{ℤ}
use lib.ListN.{length, take, length-map}
use lib.Seq.{length-take-le}
use Rattle.refusals.specs.declared.Refusal.{Refusal}
use Rattle.refusals.specs.declared.Refusal.TheVariants.{StoreSize, ValueLines}
use Rattle.refusals.specs.Answers.{after, Answer}
use Rattle.words.specs.Kinds.{Row, rows_of}
use Rattle.lines.specs.Reading.{cell_head, reading, values_limits, room_for, kinds_of, ReadInto}
use Rattle.lines.proofs.Laws.{rows_read}
use Rattle.lines.proofs.TableLaws.{in_front, rows_in_front}
use Rattle.values.specs.Values.{one_line_each, asked, value_lines, filling, FillInto}
use Rattle.values.specs.Stored.{stored}
use Rattle.values.specs.Laws.{test_says}
use Rattle.values.proofs.Sizes.{few_rows}
use Rattle.values.proofs.Stored.{values_stored}

module _ (t : List ℕ) {r : Answer} (cells : List ℕ) (values : List ℤ) {cells' : List ℕ} {values' : List ℤ}
    (read : ReadInto cell_head values_limits t cells values r cells' values') where
  abbrev R : List Row
  R = value_lines t

  read_so : {m : ℕ} → r ≡ Ok m → reading cell_head values_limits t ≡ Ok m
  read_so is = sym read.answer ∙ is

  pub rows_few : {m : ℕ} → r ≡ Ok m → m ≤ 16384
  rows_few {m} is = few_rows t m (read_so is)

  module _ {A : Type 0} (column : List A) (long : length column ≡ 16384) {m : ℕ} (is : r ≡ Ok m) where
    pub rows_fit : m ≤ length column
    rows_fit = omega (arith, rows_few is)

    pub rows_front : length (take m column) ≡ m
    rows_front = length-take-le m column rows_fit

  module _ (n : ℕ) (store : List ℤ) where
    abbrev next : ℕ → Answer
    next = asked n (length store) (kinds_of R)

    pub text_refused : {q : Refusal} → r ≡ Err q → FillInto t n store (Err q) store
    unfolding filling
    text_refused is =
        record {
          answer = ap (λ (x : Answer). after x next) (sym is ∙ read.answer);
          store_left = refl;
        }

    module _ {m : ℕ} (is : r ≡ Ok m) where
      -- question 15's answer, and question 14's
      abbrev by_lines : Bool → Answer
      by_lines b = cond b (Ok m) (Err ValueLines)

      by_store : {b : Bool} → b ≡ leb n (length store) → cond b (by_lines (one_line_each n (kinds_of R))) (Err StoreSize) ≡ filling t n (length store)
      unfolding filling
      by_store e =
          ap (λ (x : Bool). cond x (by_lines (one_line_each n (kinds_of R))) (Err StoreSize)) e
          ∙ ap (λ (x : Answer). after x next) (sym (read_so is))

      pub store_short : length store < n → FillInto t n store (Err StoreSize) store
      store_short h = record { answer = by_store (sym (lt-leb n (length store) h)); store_left = refl }

      module _ (room : n ≤ length store) (h : length cells ≡ 16384) (g : length values ≡ 16384) where
        had_room : room_for r (length cells) (length values) ≡ true
        had_room =
            rw is (simp (le-leb m (length cells) (omega (arith, rows_few is, h)), le-leb m (length values) (omega (arith, rows_few is, g))))

        count : length R ≡ m
        count = rows_read cell_head values_limits t m (read_so is)

        cells_read : take m cells' ≡ kinds_of R
        cells_read =
            in_front true (kinds_of R) cells cells' m refl (length-map R (λ (x : Row). x.0) ∙ count) (read.kinds_left had_room)

        rows_put : rows_of (take m cells') (take m values') ≡ R
        rows_put =
            rows_in_front true R m cells cells' values values' refl count (read.kinds_left had_room) (read.numbers_left had_room)

        tested : {b : Bool} → b ≡ one_line_each n (take m cells') → by_lines b ≡ filling t n (length store)
        tested e = ap by_lines (e ∙ ap (one_line_each n) cells_read) ∙ by_store (sym (le-leb n (length store) room))

        module _ {b : Bool} (test : b ≡ one_line_each n (take m cells')) where
          pub lines_wrong : b ≡ false → FillInto t n store (Err ValueLines) store
          lines_wrong e = record { answer = tested (sym e ∙ test); store_left = refl }

          pub values_put : {store' : List ℤ} → b ≡ true → store' ≡ stored (rows_of (take m cells') (take m values')) store
              → FillInto t n store (Ok m) store'
          values_put e put =
              record {
                answer = tested (sym e ∙ test);
                store_left = put
                    ∙ ap (λ (rs : List Row). stored rs store) rows_put
                    ∙ values_stored R store n (test_says n (kinds_of R) (sym (sym e ∙ test ∙ ap (one_line_each n) cells_read))) room;
              }
