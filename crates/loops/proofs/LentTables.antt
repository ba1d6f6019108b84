-- A lent table: what each way out of its check knows. Assumes nothing.
use Rattle.std.specs.Prelude.{Err, Ok}
use Rattle.loops.specs.Checked.{Checked}
use Rattle.refusals.specs.Answers.{Answer}
use mathlib.Core.Bool.{Bool, cond}
use mathlib.Core.Path.{◌≡◌, sym, ap, ◌∙◌}
use mathlib.Core.List.{List}
use Prim.Native.Nat.{ℕ, ◌≤◌, ◌<◌}
use native.Mathlib.Omega.{arith}
use borrow.Author.Tests.{le-leb, lt-leb}
use lib.Dec.{leb}
use lib.IntN.{ℤ}
use lib.ListN.{length, take}
use Rattle.refusals.specs.declared.Refusal.{Refusal}
use Rattle.refusals.specs.declared.Refusal.TheVariants.{LineCount}
use Rattle.words.specs.Kinds.{Row, rows_of}
use Rattle.words.proofs.Laws.{rows_length}
use Rattle.syntax.specs.Walk.{listed_from}
use Rattle.syntax.proofs.Tables.{rows_shorter, rows_take}
use Rattle.loops.specs.Check.{after_answer, check_loops_rows, check_table}

module _ (ks : List ℕ) (ns : List ℤ) {l : Answer} (el : l ≡ listed_from 0 (rows_of ks ns) (Ok (length (rows_of ks ns)))) where
  abbrev R : List Row
  R = rows_of ks ns

  abbrev limited : Bool → Checked
  limited b = cond b (check_loops_rows R) (Err LineCount)

  pub lent_unlisted : (q : Refusal) → l ≡ Err q → Err q ≡ check_table R
  unfolding check_table
  lent_unlisted q e = ap (λ (a : Answer). after_answer a (limited (leb (length R) 4096))) (sym e ∙ el)

  module _ (m : ℕ) (is : l ≡ Ok m) where
    lent_listed : (c : Checked) → c ≡ limited (leb (length R) 4096) → c ≡ check_table R
    unfolding check_table
    lent_listed c e = e ∙ ap (λ (a : Answer). after_answer a (limited (leb (length R) 4096))) (sym is ∙ el)

    pub lent_many : 4096 < m → Err LineCount ≡ check_table R
    lent_many h =
        lent_listed (Err LineCount) (ap limited (sym (lt-leb (length R) 4096 (omega (arith, rows_length ks ns, rows_shorter ks ns el m is)))))

    pub lent_checked : m ≤ 4096 → (c : Checked) → c ≡ check_loops_rows (rows_of (take m ks) (take m ns)) → c ≡ check_table R
    lent_checked h c e =
        lent_listed c
        (e ∙ ap check_loops_rows (rows_take m ks ns (rows_shorter ks ns el m is))
        ∙ ap limited (sym (le-leb (length R) 4096 (omega (arith, rows_length ks ns, rows_shorter ks ns el m is)))))
