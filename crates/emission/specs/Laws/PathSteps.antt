-- What stands at a step of a path, found change by change, and that it is what the path has there. Assumes nothing.
use Rattle.std.specs.Prelude.{◌≡◌, refl, List, [], ◌∷◌, ◌++◌, Bool, true, false, cond, ℕ, zero, suc, ◌+◌, ◌-◌, ◌≤◌, ◌<◌, eqb, ltb, get_or, drop, length, Option, Some, None}
use Rattle.std.proofs.Math.Path.{ap}
use Rattle.std.proofs.Common.{sym, ◌∙◌, subst, arith, ltb-true, ltb-false, lt-ltb, le-ltb, drop-drop, ne_eqb}
use Rattle.std.proofs.Math.Seq.{drop-nil, drop-append-add}
use Rattle.meaning.specs.Loops.{Offset, plus, times, over, rest}
use Rattle.meaning.specs.Paths.{Path, tail, by_part, index, first, second}
use Rattle.meaning.specs.Offsets.{leading_index}
use Rattle.emission.specs.Nodes.{kind_in, number_in}
use Rattle.emission.specs.Changes.{change_of, through, path_of, zip_first, zip_second}
use Rattle.emission.specs.declared.paths.Change.{Change}
use Rattle.emission.specs.declared.paths.Change.TheVariants.{Zip, Pair, Ungrouped, Grouped, First, Second, AtLiteral, AtCounter, ZipFirst, ZipSecond, Unchanged}
use Rattle.emission.specs.declared.paths.Found.{Found}
use Rattle.emission.specs.declared.paths.Found.TheVariants.{FirstPart, SecondPart, CounterAt, LiteralAt, Same, OfGroup, Quotient, Remainder}
use Rattle.words.specs.Kinds.{word_zip, word_pair, word_split, word_join, word_fst, word_snd, word_idx, word_ctr}

-- the steps that a change puts in front of a path, how many they are, and how many of the path are gone
abbrev own : Change → ℕ → Path Offset → Path Offset
own Zip n p = index (leading_index p) ∷ []
own Pair n p = []
own Ungrouped n p = index (plus (times n (leading_index p)) (leading_index (tail p))) ∷ []
own Grouped n p = index (over n (leading_index p)) ∷ index (rest n (leading_index p)) ∷ []
own First n p = first ∷ []
own Second n p = second ∷ []
own AtLiteral n p = index (Offset.literal n) ∷ []
own AtCounter n p = index (Offset.counter n) ∷ []
own ZipFirst n p = index (leading_index p) ∷ first ∷ []
own ZipSecond n p = index (leading_index p) ∷ second ∷ []
own Unchanged n p = []

abbrev pub made_by : Change → ℕ
made_by Zip = 1
made_by Pair = 0
made_by Ungrouped = 1
made_by Grouped = 2
made_by First = 1
made_by Second = 1
made_by AtLiteral = 1
made_by AtCounter = 1
made_by ZipFirst = 2
made_by ZipSecond = 2
made_by Unchanged = 0

abbrev pub gone_by : Change → ℕ
gone_by Zip = 2
gone_by Pair = 1
gone_by Ungrouped = 2
gone_by Grouped = 1
gone_by First = 0
gone_by Second = 0
gone_by AtLiteral = 0
gone_by AtCounter = 0
gone_by ZipFirst = 1
gone_by ZipSecond = 1
gone_by Unchanged = 0

pub tail_drop : (p : Path Offset) → tail p ≡ drop 1 p
tail_drop [] = refl
tail_drop (x ∷ p) = refl

tails_drop : (p : Path Offset) → tail (tail p) ≡ drop 2 p
tails_drop [] = refl
tails_drop (x ∷ []) = refl
tails_drop (x ∷ y ∷ p) = refl

-- a path through a change: its own steps, then those that are not gone
through_own : (f : Change) (n : ℕ) (p : Path Offset) → through f n p ≡ own f n p ++ drop (gone_by f) p
through_own Zip n p = ap (λ (q : Path Offset). own Zip n p ++ q) (tails_drop p)
through_own Pair n p = tail_drop p
through_own Ungrouped n p = ap (λ (q : Path Offset). own Ungrouped n p ++ q) (tails_drop p)
through_own Grouped n p = ap (λ (q : Path Offset). own Grouped n p ++ q) (tail_drop p)
through_own First n p = refl
through_own Second n p = refl
through_own AtLiteral n p = refl
through_own AtCounter n p = refl
through_own ZipFirst n p = ap (λ (q : Path Offset). own ZipFirst n p ++ q) (tail_drop p)
through_own ZipSecond n p = ap (λ (q : Path Offset). own ZipSecond n p ++ q) (tail_drop p)
through_own Unchanged n p = refl

own_length : (f : Change) (n : ℕ) (p : Path Offset) → length (own f n p) ≡ made_by f
own_length Zip n p = refl
own_length Pair n p = refl
own_length Ungrouped n p = refl
own_length Grouped n p = refl
own_length First n p = refl
own_length Second n p = refl
own_length AtLiteral n p = refl
own_length AtCounter n p = refl
own_length ZipFirst n p = refl
own_length ZipSecond n p = refl
own_length Unchanged n p = refl

-- step j of a change's own, over the path at depth e
abbrev pub own_found : Change → ℕ → ℕ → ℕ → Option Found
own_found Zip n j e = Some (Same e)
own_found Pair n j e = None
own_found Ungrouped n j e = Some (OfGroup n e)
own_found Grouped n j e = cond (eqb j 0) (Some (Quotient n e)) (Some (Remainder n e))
own_found First n j e = Some FirstPart
own_found Second n j e = Some SecondPart
own_found AtLiteral n j e = Some (LiteralAt n)
own_found AtCounter n j e = Some (CounterAt n)
own_found ZipFirst n j e = cond (eqb j 0) (Some (Same e)) (Some FirstPart)
own_found ZipSecond n j e = cond (eqb j 0) (Some (Same e)) (Some SecondPart)
own_found Unchanged n j e = None

-- step j of the path of the first d changes: the last change's own, or one of those behind it
abbrev found_by : Change → ℕ → ℕ → ℕ → Option Found → Option Found
found_by f n j e behind = cond (ltb j (made_by f)) (own_found f n j e) behind

unfoldable pub found_at : List ℕ → ℕ → ℕ → Option Found
found_at C zero j = None
found_at C (suc d) j =
    found_by (change_of (kind_in (get_or C d 0))) (number_in (get_or C d 0)) j d
    (found_at C d (j - made_by (change_of (kind_in (get_or C d 0))) + gone_by (change_of (kind_in (get_or C d 0)))))

-- the index that it stands for, whether it is a second part, and that the depth that it names is below this one
abbrev pub index_of : List ℕ → Option Found → Offset
index_of C None = Offset.literal 0
index_of C (Some FirstPart) = Offset.literal 0
index_of C (Some SecondPart) = Offset.literal 0
index_of C (Some (CounterAt l)) = Offset.counter l
index_of C (Some (LiteralAt v)) = Offset.literal v
index_of C (Some (Same e)) = leading_index (path_of C e)
index_of C (Some (OfGroup n e)) = plus (times n (leading_index (path_of C e))) (leading_index (drop 1 (path_of C e)))
index_of C (Some (Quotient n e)) = over n (leading_index (path_of C e))
index_of C (Some (Remainder n e)) = rest n (leading_index (path_of C e))

abbrev pub is_second : Option Found → Bool
is_second None = false
is_second (Some FirstPart) = false
is_second (Some SecondPart) = true
is_second (Some (CounterAt l)) = false
is_second (Some (LiteralAt v)) = false
is_second (Some (Same e)) = false
is_second (Some (OfGroup n e)) = false
is_second (Some (Quotient n e)) = false
is_second (Some (Remainder n e)) = false

pub not_second : (g : Found) → (g ≡ SecondPart → ⊥) → false ≡ is_second (Some g)
not_second FirstPart h = refl
not_second SecondPart h = absurd (h refl)
not_second (CounterAt l) h = refl
not_second (LiteralAt v) h = refl
not_second (Same e) h = refl
not_second (OfGroup n e) h = refl
not_second (Quotient n e) h = refl
not_second (Remainder n e) h = refl

abbrev pub depth_in : Option Found → ℕ
depth_in None = 0
depth_in (Some FirstPart) = 0
depth_in (Some SecondPart) = 0
depth_in (Some (CounterAt l)) = 0
depth_in (Some (LiteralAt v)) = 0
depth_in (Some (Same e)) = suc e
depth_in (Some (OfGroup n e)) = suc e
depth_in (Some (Quotient n e)) = suc e
depth_in (Some (Remainder n e)) = suc e

pub record Right (C : List ℕ) (d : ℕ) (p : Path Offset) (r : Option Found) : Type 0 where
  pub its_index : leading_index p ≡ index_of C r
  pub its_part : by_part p false true ≡ is_second r
  pub its_depth : depth_in r ≤ d

right_deeper : (C : List ℕ) (d : ℕ) (p : Path Offset) (r : Option Found) → Right C d p r → Right C (suc d) p r
right_deeper C d p r h = record { its_index = h.its_index; its_part = h.its_part; its_depth = omega (arith, h.its_depth) }

own_right : (C : List ℕ) (f : Change) (n j e : ℕ) (q : Path Offset) → j < made_by f
    → Right C (suc e) (drop j (own f n (path_of C e) ++ q)) (own_found f n j e)
own_right C Zip n zero e q h = record { its_index = refl; its_part = refl; its_depth = omega arith }
own_right C Zip n (suc j) e q h = absurd (omega arith)
own_right C Pair n j e q h = absurd (omega arith)
own_right C Ungrouped n zero e q h = record {
  its_index = ap (λ (p : Path Offset). plus (times n (leading_index (path_of C e))) (leading_index p)) (tail_drop (path_of C e));
  its_part = refl;
  its_depth = omega arith;
}
own_right C Ungrouped n (suc j) e q h = absurd (omega arith)
own_right C Grouped n zero e q h = record { its_index = refl; its_part = refl; its_depth = omega arith }
own_right C Grouped n (suc zero) e q h = record { its_index = refl; its_part = refl; its_depth = omega arith }
own_right C Grouped n (suc (suc j)) e q h = absurd (omega arith)
own_right C First n zero e q h = record { its_index = refl; its_part = refl; its_depth = omega arith }
own_right C First n (suc j) e q h = absurd (omega arith)
own_right C Second n zero e q h = record { its_index = refl; its_part = refl; its_depth = omega arith }
own_right C Second n (suc j) e q h = absurd (omega arith)
own_right C AtLiteral n zero e q h = record { its_index = refl; its_part = refl; its_depth = omega arith }
own_right C AtLiteral n (suc j) e q h = absurd (omega arith)
own_right C AtCounter n zero e q h = record { its_index = refl; its_part = refl; its_depth = omega arith }
own_right C AtCounter n (suc j) e q h = absurd (omega arith)
own_right C ZipFirst n zero e q h = record { its_index = refl; its_part = refl; its_depth = omega arith }
own_right C ZipFirst n (suc zero) e q h = record { its_index = refl; its_part = refl; its_depth = omega arith }
own_right C ZipFirst n (suc (suc j)) e q h = absurd (omega arith)
own_right C ZipSecond n zero e q h = record { its_index = refl; its_part = refl; its_depth = omega arith }
own_right C ZipSecond n (suc zero) e q h = record { its_index = refl; its_part = refl; its_depth = omega arith }
own_right C ZipSecond n (suc (suc j)) e q h = absurd (omega arith)
own_right C Unchanged n j e q h = absurd (omega arith)

drop_own : (f : Change) (n j : ℕ) (p : Path Offset) → made_by f ≤ j
    → drop j (own f n p ++ drop (gone_by f) p) ≡ drop (j - made_by f + gone_by f) p
drop_own f n j p h =
    let e : j ≡ length (own f n p) + (j - made_by f) = omega (arith, own_length f n p) in
    let g : gone_by f + (j - made_by f) ≡ j - made_by f + gone_by f = omega arith in
    ap (λ (i : ℕ). drop i (own f n p ++ drop (gone_by f) p)) e
    ∙ drop-append-add (own f n p) (drop (gone_by f) p) (j - made_by f)
    ∙ drop-drop (j - made_by f) (gone_by f) p
    ∙ ap (λ (i : ℕ). drop i p) g

step_right : (C : List ℕ) (f : Change) (n d j : ℕ) (b : Bool) → ltb j (made_by f) ≡ b
    → Right C d (drop (j - made_by f + gone_by f) (path_of C d)) (found_at C d (j - made_by f + gone_by f))
    → Right C (suc d) (drop j (own f n (path_of C d) ++ drop (gone_by f) (path_of C d)))
    (cond b (own_found f n j d) (found_at C d (j - made_by f + gone_by f)))
step_right C f n d j true e h = own_right C f n j d (drop (gone_by f) (path_of C d)) (ltb-true j (made_by f) e)
step_right C f n d j false e h =
    subst (λ (p : Path Offset). Right C (suc d) p (found_at C d (j - made_by f + gone_by f)))
    (sym (drop_own f n j (path_of C d) (ltb-false j (made_by f) e)))
    (right_deeper C d (drop (j - made_by f + gone_by f) (path_of C d)) (found_at C d (j - made_by f + gone_by f)) h)

-- what is found is what the path has
pub found_right : (C : List ℕ) (d j : ℕ) → Right C d (drop j (path_of C d)) (found_at C d j)
unfolding path_of found_at
found_right C zero j =
    subst (λ (p : Path Offset). Right C 0 p None) (sym (drop-nil j)) (record { its_index = refl; its_part = refl; its_depth = omega arith })
found_right C (suc d) j =
    let w : ℕ = get_or C d 0 in
    let f : Change = change_of (kind_in w) in
    subst (λ (p : Path Offset). Right C (suc d) (drop j p) (found_by f (number_in w) j d (found_at C d (j - made_by f + gone_by f))))
    (sym (through_own f (number_in w) (path_of C d)))
    (step_right C f (number_in w) d j (ltb j (made_by f)) refl (found_right C d (j - made_by f + gone_by f)))

-- the same, as the code finds it
pub found_none : (C : List ℕ) (d j : ℕ) → d ≡ 0 → None ≡ found_at C d j
unfolding found_at
found_none C d j h = rw h refl

suc_before : (d : ℕ) → (d ≡ 0 → ⊥) → d ≡ suc (d - 1)
suc_before zero h = absurd (h refl)
suc_before (suc d) h = omega arith

module _ (C : List ℕ) (d j : ℕ) (f : Change) (h : d ≡ 0 → ⊥) (e : f ≡ change_of (kind_in (get_or C (d - 1) 0))) where
  found_step : found_at C d j
      ≡ found_by f (number_in (get_or C (d - 1) 0)) j (d - 1) (found_at C (d - 1) (j - made_by f + gone_by f))
  unfolding found_at
  found_step =
      ap (λ (x : ℕ). found_at C x j) (suc_before d h)
      ∙ ap (λ (g : Change). found_by g (number_in (get_or C (d - 1) 0)) j (d - 1) (found_at C (d - 1) (j - made_by g + gone_by g))) (sym e)

  pub found_own : (n : ℕ) (r : Option Found) → n ≡ number_in (get_or C (d - 1) 0) → j < made_by f → r ≡ own_found f n j (d - 1) → r ≡ found_at C d j
  found_own n r en l p =
      p ∙ ap (λ (x : ℕ). own_found f x j (d - 1)) en
      ∙ sym (found_step ∙ ap (λ (b : Bool). cond b (own_found f (number_in (get_or C (d - 1) 0)) j (d - 1)) (found_at C (d - 1) (j - made_by f + gone_by f))) (lt-ltb j (made_by f) l))

  pub found_deeper : (m g : ℕ) (r : Option Found) → m ≡ made_by f → g ≡ gone_by f → made_by f ≤ j → r ≡ found_at C (d - 1) (j - m + g) → r ≡ found_at C d j
  found_deeper m g r em eg l p =
      p ∙ ap (λ (x : ℕ). found_at C (d - 1) (j - x + g)) em ∙ ap (λ (x : ℕ). found_at C (d - 1) (j - made_by f + x)) eg
      ∙ sym (found_step ∙ ap (λ (b : Bool). cond b (own_found f (number_in (get_or C (d - 1) 0)) j (d - 1)) (found_at C (d - 1) (j - made_by f + gone_by f))) (le-ltb j (made_by f) l))

pub gone_made : (f : Change) → gone_by f ≤ made_by f + 1
gone_made Zip = omega arith
gone_made Pair = omega arith
gone_made Ungrouped = omega arith
gone_made Grouped = omega arith
gone_made First = omega arith
gone_made Second = omega arith
gone_made AtLiteral = omega arith
gone_made AtCounter = omega arith
gone_made ZipFirst = omega arith
gone_made ZipSecond = omega arith
gone_made Unchanged = omega arith

-- by the change that it is
pub own_as : (f g : Change) (n j e : ℕ) (r : Option Found) → f ≡ g → r ≡ own_found g n j e → r ≡ own_found f n j e
own_as f g n j e r p h = h ∙ sym (ap (λ (x : Change). own_found x n j e) p)

pub at_first : {A : Type 0} (a b : A) (j : ℕ) → j ≡ 0 → a ≡ cond (eqb j 0) a b
at_first a b j h = rw h refl

pub at_later : {A : Type 0} (a b : A) (j : ℕ) → (j ≡ 0 → ⊥) → b ≡ cond (eqb j 0) a b
at_later a b j h = rw (ne_eqb j 0 h) refl

-- a kind that changes nothing
pub unchanged : (k : ℕ) → (k ≡ word_zip → ⊥) → (k ≡ word_pair → ⊥) → (k ≡ word_split → ⊥) → (k ≡ word_join → ⊥) → (k ≡ word_fst → ⊥)
    → (k ≡ word_snd → ⊥) → (k ≡ word_idx → ⊥) → (k ≡ word_ctr → ⊥) → (k ≡ zip_first → ⊥) → (k ≡ zip_second → ⊥) → Unchanged ≡ change_of k
unchanged k a b c d e f g h i j =
    rw (
      ne_eqb k word_zip a,
      ne_eqb k word_pair b,
      ne_eqb k word_split c,
      ne_eqb k word_join d,
      ne_eqb k word_fst e,
      ne_eqb k word_snd f,
      ne_eqb k word_idx g,
      ne_eqb k word_ctr h,
      ne_eqb k zip_first i,
      ne_eqb k zip_second j,
    )
    refl
