-- The three demands, the twins, and the mixings and lanes of any loops, proved. The proofs stand in Laws.
use Rattle.std.specs.Prelude.{◌≡◌, refl, List, ℕ, ℤ, length, Ok, Err}
use Rattle.loops.specs.Checked.{Checked, passing}
use Rattle.std.proofs.Common.{sym, ap, ◌∙◌, subst, arith}
use Rattle.words.specs.Kinds.{Row, rows_of}
use Rattle.words.specs.Words.{words, look_up}
use Rattle.own_words.specs.OwnWords.{own_words}
use Rattle.words.specs.declared.Sort.TheVariants as sort
use Rattle.lines.specs.Lent.{text_rows}
use Rattle.lines.specs.Printing.{text_of}
use Rattle.texts.specs.Texts.{lines_of}
use Rattle.lines.specs.Reading.{head_of}
use Rattle.lines.proofs.Laws.{rows_back, reads_back, prints_back}
use Rattle.lines.specs.declared.Heads.TheVariants.{Words}
use Rattle.lines.specs.declared.Limits.{Limits}
use Rattle.meaning.specs.Terms.{Plan}
use Rattle.meaning.specs.Loops.{Loops}
use Rattle.meaning.specs.Layout.{need, regions_from}
use Rattle.meaning.specs.Numbers.{clamped32}
use Rattle.meaning.specs.Runs.{start_of}
use Rattle.meaning.specs.NamedOrders.{forward}
use Rattle.meaning.specs.Rows.{loops_rows}
use Rattle.meaning.specs.Counts.{plan_writes}
use Rattle.meaning.specs.Limits.{TouchesBelow}
use Rattle.meaning.specs.Translation.{translation}
use Rattle.meaning.proofs.Theorems.{named_run, run_counts_as_par, need_counts_as_par}
use Rattle.mixing.specs.Mixing.{forward_run}
use Rattle.mixing.proofs.Theorems.{mixing_is_cores, run_is_mixing, mixing_without_races, mixings_count_as_par}
use Rattle.syntax.specs.Theorems.{loops_unique}
use Rattle.typing.specs.Questions.{ask, AllYes}
use Rattle.typing.specs.EntryQuestions.{read_questions}
use Rattle.typing.proofs.Laws.Questions.{all_asked, end_asked}
use Rattle.typing.proofs.Laws.EntryQuestions.{reading_asks}
use Rattle.loops.specs.Check.{check_table, check_loops_text}
use Rattle.loops.specs.TextTheorems as texts
use Rattle.loops.specs.TableTheorems as tables
use Rattle.guarantees.specs.Told.{told_writes, told_need}
use Rattle.guarantees.specs.Runs.{run_in_order}
use Rattle.guarantees.specs.Demand1.{Demand1}
use Rattle.guarantees.specs.Demand2.{TellsOf, Safe, Demand2}
use Rattle.guarantees.specs.Demand3.{Demand3}
use Rattle.guarantees.specs.Mixings.{Mixings}
use Rattle.guarantees.specs.Lanes.{LanesAsPar}
use Rattle.guarantees.specs.Demands.{DemandsFor, Demands}
use Rattle.guarantees.proofs.Laws.PlanEntries as plans
use Rattle.guarantees.proofs.Laws.LoopsEntries as entries
use Rattle.guarantees.proofs.Laws.Filling as values
use Rattle.guarantees.proofs.Laws.Codes as codes
use Rattle.guarantees.proofs.Laws.Programs as programs
use Rattle.guarantees.proofs.Laws.Searches as searches
use Rattle.guarantees.proofs.Laws.ValuesUnread.{values_unread}
use Rattle.guarantees.proofs.Laws.Told.{no_value}
use Rattle.guarantees.proofs.Laws.Made.{accepted_exactly, accepted_plan, made_text_holds, made_table, text_passes, rows_pass, translated_yes, plan_same}
use Rattle.guarantees.proofs.Laws.Delivered.{delivered}
use Rattle.guarantees.proofs.Laws.Lengths.{text_short}
use Rattle.guarantees.proofs.Laws.Twins.{twins}
use Rattle.words.specs.Good.{Good}
use Rattle.words.proofs.Laws.{words_good}

-- ws is any good table of words.
module _ (ws : List (List ℕ)) (good : Good ws) where
  pub demand_1 : Demand1 ws
  demand_1 = record {
    check_plan_holds = plans.check_plan_holds ws good;
    read_plan = λ t k k' n n' r I. plans.read_plan ws good t k k' n n' r I;
    translate_rows = λ t k k' n n' r I. plans.translate_rows ws good t k k' n n' r I;
    translate_text = λ t u u' r I. plans.translate_text ws good t u u' r I;
    check_loops_holds = entries.check_loops_holds ws good;
    check_table_holds = entries.check_table_holds ws good;
    need_loops = entries.need_loops ws good;
    read_loops = λ t k k' n n' r I. entries.read_loops ws good t k k' n n' r I;
    run_text_holds = λ t order c c' b b' r h h' f e. entries.run_text_holds ws good t order c c' b b' r h h' f e;
    run_rows = λ k n order c c' b b' r h h' f e. entries.run_rows ws good k n order c c' b b' r h h' f e;
    fill = values.fill;
    print_loops = programs.print_loops ws good;
    print_run = programs.print_run ws good;
    values_unread = values_unread ws;
    look_up_holds = searches.look_up_holds ws good;
    check_plan_c = codes.check_plan_c ws good;
    translate_c = codes.translate_c ws good;
    check_loops_c = codes.check_loops_c ws good;
    need_loops_c = codes.need_loops_c ws good;
    read_loops_c = codes.read_loops_c ws good;
    run_text_c = codes.run_text_c ws good;
    run_rows_c = codes.run_rows_c ws good;
    look_up_c = searches.look_up_c ws good;
  }

  -- ---- demand 2

  tells : (P Q : Plan) (r : Checked) → P ≡ Q → r ≡ passing (plan_writes P) (need (translation P)) → TellsOf Q r
  tells P Q r same e =
      subst (λ (X : Plan). TellsOf X r) same (ap told_writes e, ap told_need e)

  safe : (R : List Row) (r : Checked)
      → ((w n : ℕ) → r ≡ passing w n → (L : Loops) × (R ≡ loops_rows L) × TouchesBelow n L.command (start_of L) (regions_from L))
      → Safe R r
  safe R (Ok p) h n e L is =
      let same : p.need ≡ n = cc in
      let s = h p.writes p.need refl in
      let one : s.0 ≡ L = loops_unique s.0 L (sym s.1 ∙ is) in
      subst (λ (x : ℕ). TouchesBelow x L.command (start_of L) (regions_from L)) same
      (subst (λ (M : Loops). TouchesBelow p.need M.command (start_of M) (regions_from M)) one s.2)
  safe R (Err q) h n e L is = no_value (sym e)

  read_yes : (limits : Limits) (t : List ℕ) (n : ℕ)
      → ask Err (read_questions (head_of ws Words) limits t) (Ok (length (lines_of t))) ≡ Ok n
      → AllYes (read_questions (head_of ws Words) limits t)
  read_yes limits t n e =
      (end_asked Err (read_questions (head_of ws Words) limits t) (Ok (length (lines_of t))) (Ok n)
      (λ q f. let clash : ◌≡◌ {A = ℕ} 0 1 = cc in omega arith) e).0

  pub demand_2 : Demand2 ws
  demand_2 = record {
    accepted = accepted_exactly ws good;
    text_made = λ t u M P A. (made_text_holds ws good t M).1 ∙ ap (λ (Q : Plan). text_of ws (loops_rows (translation Q))) (plan_same ws good t P A);
    rows_made = λ t k n M P A. (made_table ws good t M).1 ∙ ap (λ (Q : Plan). loops_rows (translation Q)) (plan_same ws good t P A);
    text_passes = λ t u M P A r e.
        let x = made_text_holds ws good t M in tells _ P r (plan_same ws good t P A) (e ∙ ap (check_loops_text ws) x.1 ∙ text_passes ws good t x.0);
    rows_pass = λ t k n M P A r e.
        let x = made_table ws good t M in tells _ P r (plan_same ws good t P A) (e ∙ ap check_table x.1 ∙ rows_pass ws good t x.0);
    read_back = λ limits R p some bytes lines. (
      read_yes limits (text_of ws R) (length R)
          (sym (reading_asks (head_of ws Words) limits (text_of ws R))
          ∙ reads_back ws good limits R p some bytes lines),
      rows_back ws good R p,
    );
    print_back = λ limits t h.
        prints_back ws limits t (length (lines_of t))
        (reading_asks (look_up ws) limits t ∙ all_asked Err (read_questions (look_up ws) limits t) (Ok (length (lines_of t))) h);
    loops_fit = λ R p h few. let short = text_short ws good sort.Loops R p h in omega (arith, short, few);
    plan_fits = λ R p h few. let short = text_short ws good sort.Plan R p h in omega (arith, short, few);
    text_safe = λ t r e. safe (text_rows ws t) r (λ w n f. texts.text_safe ws t w n (sym e ∙ f));
    rows_safe = λ k n r e. safe (rows_of k n) r (λ w m f. tables.table_safe (rows_of k n) w m (sym e ∙ f));
  }

  pub demand_3 : Demand3 ws
  demand_3 t M =
      let y = translated_yes ws good t M in (
        _,
        accepted_plan ws good t y.door y.typed,
        delivered ws good t y,
      )

mixings_forward : (L : Loops) (s : List ℤ) → forward_run clamped32 L s ≡ run_in_order 0 L s
unfolding forward
mixings_forward L s = named_run clamped32 forward L s

pub mixings : Mixings
mixings = record {
  cores = mixing_is_cores;
  run_mixed = run_is_mixing clamped32;
  without_races_holds = λ L free l m s. mixing_without_races clamped32 L free s l m ∙ mixings_forward L s;
}

pub lanes : LanesAsPar
lanes = record { same_run = run_counts_as_par clamped32; same_need = need_counts_as_par; same_mixings = mixings_count_as_par }

for_good_words : (ws : List (List ℕ)) → Good ws → DemandsFor ws
for_good_words ws good = (demand_1 ws good, demand_2 ws good, demand_3 ws good)

pub demands : Demands
demands = record {
  for_good_words = for_good_words;
  built_in = for_good_words words words_good;
  own = λ w yes. for_good_words (own_words w) ((twins w).good yes);
  twins = twins;
  mixings = mixings;
  lanes = lanes;
}
