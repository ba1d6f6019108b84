-- Demand 1 of the entries that take a plan's text. Assumes nothing.
use Rattle.std.specs.Prelude.{Bool, ◌&&◌, ◌≡◌, List, ◌++◌, map, ℕ, ℤ, length, drop, Ok, Err}
use Rattle.std.proofs.Math.Bool.{true, false, cond}
use Rattle.std.proofs.Math.Path.{refl, ap}
use Rattle.std.proofs.Common.{◌∙◌}
use Rattle.std.proofs.Math.Dec.{leb}
use Rattle.std.proofs.lemmas.List.{length-map}
use Rattle.refusals.specs.declared.Refusal.{Refusal}
use Rattle.refusals.specs.declared.Refusal.TheVariants.{LoopsLength, WriteCount, LentSize, LanesInside}
use Rattle.refusals.specs.Answers.{unless_refused, is_told, Answer}
use Rattle.words.specs.Kinds.{Row}
use Rattle.lines.specs.Lent.{text_rows, ask_room}
use Rattle.lines.specs.Printing.{text_of, printing}
use Rattle.lines.specs.Reading.{kinds_of, numbers_of, filled}
use Rattle.meaning.specs.Terms.{Plan}
use Rattle.meaning.specs.Counts.{plan_writes}
use Rattle.meaning.specs.Limits.{lanes_apart}
use Rattle.meaning.specs.Rows.{plan_rows}
use Rattle.meaning.specs.Translation.{translation}
use Rattle.syntax.specs.Reading.{plan_of}
use Rattle.syntax.specs.Theorems.{plan_unique}
use Rattle.typing.specs.Questions.{Question, ask}
use Rattle.typing.specs.TypeQuestions.{plan_questions}
use Rattle.typing.specs.Entry.{check_plan_text}
use Rattle.plans.specs.Promises.{ChecksPlan, ReadsPlan}
use Rattle.translate.specs.Entry.{made_rows, make_plan, make_text}
use Rattle.translate.specs.Questions.{made_questions}
use Rattle.translate.specs.Promises.{TranslatesRows, TranslatesText}
use Rattle.guarantees.specs.Told.{Told, refusal, told_answer}
use Rattle.guarantees.specs.Questions.{plan_door, table_room, text_room}
use Rattle.guarantees.specs.Demand1.{OfPlan, Nothing, TableKept, TableLeft, TextLeft}
use Rattle.guarantees.proofs.Laws.Asked.{answers_of}
use Rattle.guarantees.proofs.Laws.Doors.{plan_is, plan_asks}
use Rattle.guarantees.proofs.Laws.Told.{told_asks, told_further, answer_refused, answer_done}
use Rattle.words.specs.Good.{Good}

-- ws is any good table of words.
module _ (ws : List (List ℕ)) (good : Good ws) where
  -- ---- tables and texts as they are left

  -- a column of rows in front
  pub column_left : {A : Type 0} (R : List Row) (f : Row → A) (held left : List A)
      → left ≡ map f R ++ drop (length (map f R)) held → left ≡ map f R ++ drop (length R) held
  column_left R f held left e = e ∙ ap (λ (n : ℕ). map f R ++ drop n held) (length-map R f)

  module _ (R : List Row) (k k' : List ℕ) (n n' : List ℤ) (r : Answer)
      (x : k' ≡ filled (is_told r) (kinds_of R) k) (y : n' ≡ filled (is_told r) (numbers_of R) n) where
    pub table_kept : (q : Refusal) → told_answer r ≡ refusal q → TableKept k k' n n'
    table_kept q e =
        answer_refused r q e
        (λ p f. (x ∙ ap (λ (a : Answer). filled (is_told a) (kinds_of R) k) f, y ∙ ap (λ (a : Answer). filled (is_told a) (numbers_of R) n) f))

    pub table_left : (v : ℕ) → told_answer r ≡ Told.value v → TableLeft R k k' n n'
    table_left v e =
        answer_done r v e
        (λ m f. (
          column_left R (λ (a : Row). a.0) k k' (x ∙ ap (λ (a : Answer). filled (is_told a) (kinds_of R) k) f),
          column_left R (λ (a : Row). a.1) n n' (y ∙ ap (λ (a : Answer). filled (is_told a) (numbers_of R) n) f),
        ))

  -- 12 of a lent table
  pub room_told : (m k n : ℕ) → told_answer (ask_room m k n) ≡ ask refusal (table_room m k n) (Told.value m)
  unfolding ask
  room_told m k n = go (leb m k && leb m n)
    where
      go : (b : Bool) → told_answer (cond b (Ok m) (Err LentSize)) ≡ cond b (Told.value m) (refusal LentSize)
      go true = refl
      go false = refl

  module _ (t : List ℕ) where
    abbrev R : List Row
    R = text_rows ws t

    abbrev P : Plan
    P = plan_of R

    abbrev door : List Question
    door = plan_door ws t ++ plan_questions P

    -- what is told of the check's answer, by any f that hands refusals on
    plan_told : (f : Answer → Told) → ((q : Refusal) → f (Err q) ≡ refusal q)
        → f (check_plan_text ws t) ≡ ask refusal door (f (Ok (length R)))
    plan_told f h = told_asks Err f h door (Ok (length R)) (check_plan_text ws t) (plan_asks ws good t)

    pub of_plan_holds : (more : Plan → List Question) (v : Plan → ℕ) (Kept : Type 0) (Left : Plan → Type 0) (r : Told)
        → r ≡ ask refusal (plan_door ws t ++ more P) (Told.value (v P))
        → ((q : Refusal) → r ≡ refusal q → Kept) → (r ≡ Told.value (v P) → Left P) → OfPlan ws t more v Kept Left r
    of_plan_holds more v Kept Left r asks kept left =
        answers_of plan_rows R (plan_door ws t) more v Kept Left r P asks (plan_is ws good t) plan_unique kept left

    -- ---- `plans`

    pub check_plan_holds : (r : Answer) → ChecksPlan ws t r → OfPlan ws t plan_questions (λ Q. length R) (Unit {0}) Nothing (told_answer r)
    check_plan_holds r e =
        of_plan_holds plan_questions (λ Q. length R) (Unit {0}) Nothing (told_answer r) (ap told_answer e ∙ plan_told told_answer (λ q. refl))
        (λ q f. tt) (λ f. tt)

    pub read_plan : (k k' : List ℕ) (n n' : List ℤ) (r : Answer) → ReadsPlan ws t k n r k' n'
        → OfPlan ws t (λ Q. plan_questions Q ++ table_room (length R) (length k) (length n)) (λ Q. length R)
        (TableKept k k' n n') (λ Q. TableLeft R k k' n n') (told_answer r)
    read_plan k k' n n' r I =
        let room : List Question = table_room (length R) (length k) (length n) in
        let f : Answer → Told = λ a. told_answer (unless_refused a (ask_room (length R) (length k) (length n))) in
        let asks : told_answer r ≡ ask refusal (plan_door ws t ++ (plan_questions P ++ room)) (Told.value (length R)) =
        told_further (plan_door ws t) (plan_questions P) room (told_answer r) (Told.value (length R))
        (ap told_answer I.answer ∙ plan_told f (λ q. refl) ∙ ap (ask refusal door) (room_told (length R) (length k) (length n))) in
        of_plan_holds (λ Q. plan_questions Q ++ room) (λ Q. length R) (TableKept k k' n n') (λ Q. TableLeft R k k' n n') (told_answer r) asks
        (table_kept R k k' n n' r I.kinds_left I.numbers_left) (table_left R k k' n n' r I.kinds_left I.numbers_left (length R))

    -- ---- `translate`

    abbrev S : List ℕ
    S = text_of ws (made_rows P)

    -- 10, 18 and 11 of the plan, and then what comes behind: e where the rows are made, told by f, which hands refusals on
    made_told : (f : Answer → Told) → ((q : Refusal) → f (Err q) ≡ refusal q) → (room : List Question) (v : ℕ)
        → f (Ok (length (made_rows P))) ≡ ask refusal room (Told.value v)
        → f (make_plan P) ≡ ask refusal (made_questions P ++ room) (Told.value v)
    unfolding make_plan ask
    made_told f h room v e = go (leb (length (made_rows P)) 4096) (lanes_apart (translation P).command) (leb (plan_writes P) 16777216)
      where
        go : (a l b : Bool)
            → f (cond a (cond l (cond b (Ok (length (made_rows P))) (Err WriteCount)) (Err (LanesInside 0))) (Err LoopsLength))
            ≡ cond a (cond l (cond b (ask refusal room (Told.value v)) (refusal WriteCount)) (refusal (LanesInside 0))) (refusal LoopsLength)
        go true true true = e
        go true true false = h WriteCount
        go true false b = h (LanesInside 0)
        go false l b = h LoopsLength

    -- the whole list, of an entry whose answer f tells
    pub make_told : (f : Answer → Told) → ((q : Refusal) → f (Err q) ≡ refusal q) → (room : List Question) (v : ℕ)
        → f (Ok (length (made_rows P))) ≡ ask refusal room (Told.value v)
        → f (make_text ws t) ≡ ask refusal (plan_door ws t ++ (plan_questions P ++ (made_questions P ++ room))) (Told.value v)
    unfolding make_text
    make_told f h room v e =
        told_further (plan_door ws t) (plan_questions P) (made_questions P ++ room) (f (make_text ws t)) (Told.value v)
        (plan_told (λ a. f (unless_refused a (make_plan P))) h ∙ ap (ask refusal door) (made_told f h room v e))

    pub rows_asked : (k k' : List ℕ) (n n' : List ℤ) (r : Answer) → TranslatesRows ws t k n r k' n'
        → told_answer r ≡ ask refusal (plan_door ws t ++ (plan_questions P ++ (made_questions P ++ table_room (length (made_rows P)) (length k) (length n))))
        (Told.value (length (made_rows P)))
    rows_asked k k' n n' r I =
        let m : ℕ = length (made_rows P) in
        ap told_answer I.answer
        ∙ make_told (λ v. told_answer (unless_refused v (ask_room m (length k) (length n)))) (λ q. refl) (table_room m (length k) (length n)) m
        (room_told m (length k) (length n))

    pub translate_rows : (k k' : List ℕ) (n n' : List ℤ) (r : Answer) → TranslatesRows ws t k n r k' n'
        → OfPlan ws t (λ Q. plan_questions Q ++ (made_questions Q ++ table_room (length (made_rows Q)) (length k) (length n))) (λ Q. length (made_rows Q))
        (TableKept k k' n n') (λ Q. TableLeft (made_rows Q) k k' n n') (told_answer r)
    translate_rows k k' n n' r I =
        let m : ℕ = length (made_rows P) in
        of_plan_holds _ (λ Q. length (made_rows Q)) (TableKept k k' n n') (λ Q. TableLeft (made_rows Q) k k' n n') (told_answer r)
        (rows_asked k k' n n' r I)
        (table_kept (made_rows P) k k' n n' r I.kinds_left I.numbers_left)
        (table_left (made_rows P) k k' n n' r I.kinds_left I.numbers_left m)

    text_told : (m bytes : ℕ) → told_answer (unless_refused (Ok m) (printing S bytes)) ≡ ask refusal (text_room S bytes) (Told.value (length S))
    unfolding printing ask
    text_told m bytes = go (leb (length S) bytes)
      where
        go : (b : Bool) → told_answer (cond b (Ok (length S)) (Err LentSize)) ≡ cond b (Told.value (length S)) (refusal LentSize)
        go true = refl
        go false = refl

    pub text_asked : (u u' : List ℕ) (r : Answer) → TranslatesText ws t u r u'
        → told_answer r ≡ ask refusal (plan_door ws t ++ (plan_questions P ++ (made_questions P ++ text_room S (length u)))) (Told.value (length S))
    text_asked u u' r I =
        ap told_answer I.answer
        ∙ make_told (λ v. told_answer (unless_refused v (printing S (length u)))) (λ q. refl) (text_room S (length u)) (length S)
        (text_told (length (made_rows P)) (length u))

    pub translate_text : (u u' : List ℕ) (r : Answer) → TranslatesText ws t u r u'
        → OfPlan ws t (λ Q. plan_questions Q ++ (made_questions Q ++ text_room (text_of ws (made_rows Q)) (length u)))
        (λ Q. length (text_of ws (made_rows Q))) (u' ≡ u) (λ Q. TextLeft (text_of ws (made_rows Q)) u u') (told_answer r)
    translate_text u u' r I =
        of_plan_holds _ (λ Q. length (text_of ws (made_rows Q))) (u' ≡ u) (λ Q. TextLeft (text_of ws (made_rows Q)) u u') (told_answer r)
        (text_asked u u' r I)
        (λ q e. answer_refused r q e (λ p f. I.text_left ∙ ap (λ (a : Answer). filled (is_told a) S u) f))
        (λ e. answer_done r (length S) e (λ i f. I.text_left ∙ ap (λ (a : Answer). filled (is_told a) S u) f))
