-- What is lent: what each way out of the entries knows. Assumes nothing.
use Rattle.std.specs.Prelude.{Ok, Err}
use mathlib.Core.Bool.{Bool, true, false, cond}
use mathlib.Core.Path.{◌≡◌, refl, sym, ap, ◌∙◌, subst}
use mathlib.Core.List.{List}
use Prim.Native.Nat.{ℕ, ◌≤◌}
use native.Mathlib.Omega.{arith}
use borrow.Author.Tests.{le-leb}
use lib.IntN.{ℤ}
use lib.ListN.{length, take}
use Rattle.refusals.specs.declared.Refusal.{Refusal}
use Rattle.refusals.specs.declared.Refusal.TheVariants.{LentSize}
use Rattle.refusals.specs.Answers.{unless_refused, is_told, Answer}
use Rattle.words.specs.Kinds.{Row, rows_of}
use Rattle.lines.specs.Reading.{filled}
use Rattle.lines.proofs.TableLaws.{rows_in_front}
use Rattle.lines.specs.Printing.{text_of, fitting, printing, PrintInto}
use Rattle.lines.specs.Lent.{TableInto, ask_room}
use Rattle.translate.specs.Entry.{rows_made, make_text, TextInto}
use Rattle.translate.specs.Laws.Answers.{text_count}

-- ---- a lent text

module _ (ws : List (List ℕ)) (t : List ℕ) (r : Answer) (ks ks' : List ℕ) (ns ns' : List ℤ) (lk : length ks ≡ 4096) (ln : length ns ≡ 4096)
    (I : TableInto (make_text ws t) (rows_made ws t) ks ns r ks' ns') where
  -- a table of 4,096 rows has room for all that is made
  pub own_answer : r ≡ make_text ws t
  own_answer = go (make_text ws t) refl I.answer
    where
      go : (v : Answer) → make_text ws t ≡ v → r ≡ unless_refused v (ask_room (length (rows_made ws t)) (length ks) (length ns)) → r ≡ v
      go (Err q) f e = e
      go (Ok m) f e =
          let c = text_count ws t m f in
          let n : ℕ = length (rows_made ws t) in
          e ∙ simp (le-leb n (length ks) (omega (arith, c.0, c.1, lk)), le-leb n (length ns) (omega (arith, c.0, c.1, ln))) (ap Ok c.0)

  module _ (text : List ℕ) where
    pub text_refused : {q : Refusal} → r ≡ Err q → TextInto ws (make_text ws t) (rows_made ws t) text r text
    text_refused f = record {
      answer = f ∙ ap (λ (v : Answer). unless_refused v (printing (text_of ws (rows_made ws t)) (length text))) (sym f ∙ own_answer);
      text_left = ap (λ (v : Answer). filled (is_told v) (text_of ws (rows_made ws t)) text) (sym f);
    }

    module _ (m : ℕ) (f : r ≡ Ok m) where
      abbrev R : List Row
      R = rows_made ws t

      count : length R ≡ m
      count = (text_count ws t m (sym own_answer ∙ f)).0

      pub few_rows : m ≤ 4096
      few_rows = (text_count ws t m (sym own_answer ∙ f)).1

      pub text_filled : (text' : List ℕ) (p : Answer) → PrintInto ws (rows_of (take m ks') (take m ns')) text p text'
          → TextInto ws (make_text ws t) R text p text'
      unfolding printing
      text_filled text' p J =
          let rows : rows_of (take m ks') (take m ns') ≡ R = rows_in_front (is_told r) R m ks ks' ns ns' (ap is_told f) count I.kinds_left I.numbers_left in
          let K : PrintInto ws R text p text' = subst (λ (T : List Row). PrintInto ws T text p text') rows J in
          record {
            answer = K.answer ∙ ap (λ (v : Answer). unless_refused v (printing (text_of ws R) (length text))) (sym f ∙ own_answer);
            text_left = K.text_left ∙ ap (λ (b : Bool). filled b (text_of ws R) text) (sym (ap is_told K.answer ∙ fits (fitting (text_of ws R) (length text))));
          }
        where
          fits : (b : Bool) → is_told (cond b (Ok (length (text_of ws R))) (Err LentSize)) ≡ b
          fits true = refl
          fits false = refl
