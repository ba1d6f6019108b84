-- What the translator prints, from what the translation answers into a table of 4,096 rows. Assumes nothing.
use Rattle.std.specs.Prelude.{Ok, Err}
use mathlib.Core.Path.{◌≡◌, sym, ap, subst, ◌∙◌}
use mathlib.Core.List.{List}
use Prim.Native.Nat.{ℕ, ◌≤◌}
use lib.IntN.{ℤ}
use lib.ListN.{length, take}
use Rattle.refusals.specs.declared.Refusal.{Refusal}
use Rattle.refusals.specs.Answers.{is_told, Answer}
use Rattle.words.specs.Kinds.{rows_of}
use Rattle.lines.specs.Printing.{text_of, PrintInto}
use Rattle.lines.proofs.TableLaws.{rows_in_front}
use Rattle.lines.specs.Lent.{TableInto}
use Rattle.translate.specs.Entry.{rows_made, make_text}
use Rattle.translate.specs.Laws.Answers.{text_count}
use Rattle.translate.proofs.LentLaws as lent
use Rattle.programs.specs.Printed.{refusal_text, made_text, translator_text, PutInto}

module _ (ws : List (List ℕ)) (t : List ℕ) (r : Answer) (ks ks' : List ℕ) (ns ns' : List ℤ) (lk : length ks ≡ 4096) (ln : length ns ≡ 4096)
    (I : TableInto (make_text ws t) (rows_made ws t) ks ns r ks' ns') where
  own_answer : r ≡ make_text ws t
  own_answer = lent.own_answer ws t r ks ks' ns ns' lk ln I

  said : (v : Answer) → r ≡ v → made_text v (text_of ws (rows_made ws t)) ≡ translator_text ws t
  unfolding translator_text
  said v f = ap (λ (x : Answer). made_text x (text_of ws (rows_made ws t))) (sym f ∙ own_answer)

  module _ {text text' : List ℕ} {p : Answer} where
    pub text_refused : (q : Refusal) → r ≡ Err q → PutInto (refusal_text q) text p text' → PutInto (translator_text ws t) text p text'
    text_refused q f J = subst (λ (x : List ℕ). PutInto x text p text') (said (Err q) f) J

  module _ (m : ℕ) (f : r ≡ Ok m) where
    pub few_rows : m ≤ 4096
    few_rows = (text_count ws t m (sym own_answer ∙ f)).1

    pub text_printed : {text text' : List ℕ} {p : Answer} → PrintInto ws (rows_of (take m ks') (take m ns')) text p text'
        → PutInto (translator_text ws t) text p text'
    text_printed {text} {text'} {p} J =
        let count : length (rows_made ws t) ≡ m = (text_count ws t m (sym own_answer ∙ f)).0 in
        let rows : rows_of (take m ks') (take m ns') ≡ rows_made ws t =
        rows_in_front (is_told r) (rows_made ws t) m ks ks' ns ns' (ap is_told f) count I.kinds_left I.numbers_left in
        subst (λ (x : List ℕ). PutInto x text p text') (ap (text_of ws) rows ∙ said (Ok m) f)
        (record { answer = J.answer; text_left = J.text_left })
