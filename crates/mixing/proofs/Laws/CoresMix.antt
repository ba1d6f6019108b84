-- What the cores can do, step by step, are the mixings, and all of them.
use Rattle.std.specs.Prelude.{◌≡◌, refl, List, [], ◌∷◌, ◌++◌, map, ℕ}
use Rattle.std.proofs.Common.{sym, ap, ◌∙◌, subst, inl, inr, ⊎_elim}
use Rattle.meaning.specs.Terms.{LoopKind}
use Rattle.meaning.specs.Sequence.{up_from}
use Rattle.meaning.specs.Loops.{Command, seq, loop, new}
use Rattle.meaning.specs.Layout.{first_room, second_room, round_room, region_room, body_room}
use Rattle.meaning.specs.Runs.{Environment, with_counter, with_region}
use Rattle.meaning.specs.Steps.{SetStep}
use Rattle.mixing.specs.Mixing.{Takes, AllEnded, Mixed, joined, Together, OneEach, Mixing}
use Rattle.mixing.specs.Cores.{Work, besides, in_sequence, work_of_rounds, work, Ended, Goes, Done}

-- One piece of work and then another

-- of work that has ended no step is done
ended_still : (v : Work) → Ended v → (s : SetStep) (left : Work) → Goes v s left → ⊥
ended_still Work.nothing e s left g = g
ended_still (Work.one u) e s left g = e
ended_still (Work.then v w) e s left g =
    ⊎_elim (λ h. ended_still v e.0 s h.0 h.1) (λ h. ended_still w e.1 s h.0 h.2) g
ended_still (Work.beside v w) e s left g =
    ⊎_elim (λ h. ended_still v e.0 s h.0 h.1) (λ h. ended_still w e.1 s h.0 h.1) g

ended_none : (v : Work) → Ended v → (x : List SetStep) → Done v x → x ≡ []
ended_none v e [] h = refl
ended_none v e (s ∷ x) h = absurd (ended_still v e s h.0 h.1)

abbrev Parted : Work → Work → List SetStep → Type 0
Parted v w l = (x : List SetStep) × (y : List SetStep) × Done v x × Done w y × (l ≡ x ++ y)

done_then : (v w : Work) (l : List SetStep) → Done (Work.then v w) l → Parted v w l
done_then v w [] h = ([], [], h.0, h.1, refl)
done_then v w (s ∷ l) h =
    ⊎_elim
    (λ g.
    let r : Parted g.0 w l = done_then g.0 w l (subst (λ (u : Work). Done u l) g.2 h.2) in
    (s ∷ r.0, r.1, (g.0, g.1, r.2), r.3, ap (λ (m : List SetStep). s ∷ m) r.4))
    (λ g.
    let ended : Ended v = g.1 in
    let r : Parted v g.0 l = done_then v g.0 l (subst (λ (u : Work). Done u l) g.3 h.2) in
    let only : l ≡ r.1 = r.4 ∙ ap (λ (x : List SetStep). x ++ r.1) (ended_none v ended r.0 r.2) in
    ([], s ∷ r.1, ended, (g.0, g.2, r.3), ap (λ (m : List SetStep). s ∷ m) only))
    h.1

then_done : (v w : Work) (x y : List SetStep) → Done v x → Done w y → Done (Work.then v w) (x ++ y)
then_done v w [] [] h k = (h, k)
then_done v w [] (s ∷ y) h k =
    (Work.then v k.0, inr (k.0, h, k.1, refl), then_done v k.0 [] y h k.2)
then_done v w (s ∷ x) y h k = (Work.then h.0 w, inl (h.0, h.1, refl), then_done h.0 w x y h.2 k)

-- Rounds, each with its steps: a mixing of them is work done

abbrev AllDone : List Work → List (List SetStep) → Type 0
AllDone [] [] = Unit {0}
AllDone [] (x ∷ xs) = ⊥
AllDone (w ∷ ws) [] = ⊥
AllDone (w ∷ ws) (x ∷ xs) = Done w x × AllDone ws xs

-- a step taken of the rounds' lists is one that some core does
abbrev Taken : List Work → SetStep → List (List SetStep) → Type 0
Taken ws s ys = (ws' : List Work) × Goes (besides ws) s (besides ws') × AllDone ws' ys

takes_goes : (ws : List Work) (xs ys : List (List SetStep)) (s : SetStep) → AllDone ws xs → Takes s xs ys → Taken ws s ys
takes_goes [] [] ys s h t = absurd t
takes_goes [] (x ∷ xs) ys s h t = absurd h
takes_goes (w ∷ ws) [] ys s h t = absurd h
takes_goes (w ∷ ws) (x ∷ xs) [] s h t = absurd t
takes_goes (w ∷ ws) (x ∷ xs) (y ∷ ys) s h t =
    ⊎_elim
    (λ e.
    let d : Done w (s ∷ y) = subst (Done w) e.0 h.0 in
    (d.0 ∷ ws, inl (d.0, d.1, refl), (d.2, subst (AllDone ws) e.1 h.1)))
    (λ e.
    let r : Taken ws s ys = takes_goes ws xs ys s h.1 e.1 in
    (w ∷ r.0, inr (besides r.0, r.1, refl), (subst (Done w) e.0 h.0, r.2)))
    t

all_ended : (ws : List Work) (xs : List (List SetStep)) → AllDone ws xs → AllEnded xs → Ended (besides ws)
all_ended [] [] h e = tt
all_ended [] (x ∷ xs) h e = absurd h
all_ended (w ∷ ws) [] h e = absurd h
all_ended (w ∷ ws) (x ∷ xs) h e = (subst (Done w) e.0 h.0, all_ended ws xs h.1 e.1)

mixed_done : (ws : List Work) (xs : List (List SetStep)) (l : List SetStep)
    → AllDone ws xs → Mixed xs l → Done (besides ws) l
mixed_done ws xs [] h m = all_ended ws xs h m
mixed_done ws xs (s ∷ l) h m =
    let r : Taken ws s m.0 = takes_goes ws xs m.0 s h m.1 in
    (besides r.0, r.1, mixed_done r.0 m.0 l r.2 m.2)

joined_done : (ws : List Work) (xs : List (List SetStep)) → AllDone ws xs → Done (in_sequence ws) (joined xs)
joined_done [] [] h = tt
joined_done [] (x ∷ xs) h = absurd h
joined_done (w ∷ ws) [] h = absurd h
joined_done (w ∷ ws) (x ∷ xs) h =
    then_done w (in_sequence ws) x (joined xs) h.0 (joined_done ws xs h.1)

together_done : (kind : LoopKind) (ws : List Work) (xs : List (List SetStep)) (l : List SetStep)
    → AllDone ws xs → Together kind xs l → Done (work_of_rounds kind ws) l
together_done LoopKind.parallel ws xs l h m = mixed_done ws xs l h m
together_done LoopKind.sequential ws xs l h m =
    let behind : l ≡ joined xs = m in
    subst (Done (in_sequence ws)) (sym behind) (joined_done ws xs h)
together_done LoopKind.lanes ws xs l h m = mixed_done ws xs l h m

-- and what some core does is the next step of one of the rounds
abbrev Moved : List Work → SetStep → Work → Type 0
Moved ws s u =
    (ws' : List Work)
    × (u ≡ besides ws')
    × ((ys : List (List SetStep)) → AllDone ws' ys → (xs : List (List SetStep)) × AllDone ws xs × Takes s xs ys)

goes_moves : (ws : List Work) (s : SetStep) (u : Work) → Goes (besides ws) s u → Moved ws s u
goes_moves [] s u g = absurd g
goes_moves (w ∷ ws) s u g =
    ⊎_elim
    (λ h. (h.0 ∷ ws, h.2, first h.0 h.1))
    (λ h.
    let r : Moved ws s h.0 = goes_moves ws s h.0 h.1 in
    (w ∷ r.0, h.2 ∙ ap (λ (v : Work). Work.beside w v) r.1, later r.0 r.2))
    g
  where
    first : (w' : Work) → Goes w s w' → (ys : List (List SetStep)) → AllDone (w' ∷ ws) ys
        → (xs : List (List SetStep)) × AllDone (w ∷ ws) xs × Takes s xs ys
    first w' g' [] h = absurd h
    first w' g' (y ∷ ys) h = ((s ∷ y) ∷ ys, ((w', g', h.0), h.1), inl (refl, refl))

    later : (ws' : List Work)
        → ((ys : List (List SetStep)) → AllDone ws' ys → (xs : List (List SetStep)) × AllDone ws xs × Takes s xs ys)
        → (ys : List (List SetStep)) → AllDone (w ∷ ws') ys
        → (xs : List (List SetStep)) × AllDone (w ∷ ws) xs × Takes s xs ys
    later ws' k [] h = absurd h
    later ws' k (y ∷ ys) h = let r = k ys h.1 in (y ∷ r.0, (h.0, r.1), inr (refl, r.2))

abbrev RoundsDone : LoopKind → List Work → List SetStep → Type 0
RoundsDone kind ws l = (xs : List (List SetStep)) × AllDone ws xs × Together kind xs l

ended_mixed : (ws : List Work) → Ended (besides ws) → RoundsDone LoopKind.parallel ws []
ended_mixed [] h = ([], tt, tt)
ended_mixed (w ∷ ws) h =
    let r : RoundsDone LoopKind.parallel ws [] = ended_mixed ws h.1 in
    ([] ∷ r.0, (h.0, r.1), (refl, r.2))

done_mixed : (ws : List Work) (l : List SetStep) → Done (besides ws) l → RoundsDone LoopKind.parallel ws l
done_mixed ws [] h = ended_mixed ws h
done_mixed ws (s ∷ l) h =
    let m : Moved ws s h.0 = goes_moves ws s h.0 h.1 in
    let r : RoundsDone LoopKind.parallel m.0 l =
    done_mixed m.0 l (subst (λ (u : Work). Done u l) m.1 h.2) in
    let b = m.2 r.0 r.1 in
    (b.0, b.1, (r.0, b.2, r.2))

done_joined : (ws : List Work) (l : List SetStep) → Done (in_sequence ws) l → RoundsDone LoopKind.sequential ws l
done_joined [] [] h = ([], tt, refl)
done_joined [] (s ∷ l) h = absurd h.1
done_joined (w ∷ ws) l h =
    let p : Parted w (in_sequence ws) l = done_then w (in_sequence ws) l h in
    let r : RoundsDone LoopKind.sequential ws p.1 = done_joined ws p.1 p.3 in
    (p.0 ∷ r.0, (p.2, r.1), p.4 ∙ ap (λ (m : List SetStep). p.0 ++ m) r.2)

done_together : (kind : LoopKind) (ws : List Work) (l : List SetStep) → Done (work_of_rounds kind ws) l → RoundsDone kind ws l
done_together LoopKind.parallel ws l h = done_mixed ws l h
done_together LoopKind.sequential ws l h = done_joined ws l h
done_together LoopKind.lanes ws l h = done_mixed ws l h

-- Commands

each_done : (Round : ℕ → List SetStep → Type 0) (f : ℕ → Work)
    → ((i : ℕ) (x : List SetStep) → Round i x → Done (f i) x)
    → (is : List ℕ) (xs : List (List SetStep)) → OneEach is Round xs → AllDone (map f is) xs
each_done Round f h [] [] o = tt
each_done Round f h [] (x ∷ xs) o = absurd o
each_done Round f h (i ∷ is) [] o = absurd o
each_done Round f h (i ∷ is) (x ∷ xs) o = (h i x o.0, each_done Round f h is xs o.1)

done_each : (Round : ℕ → List SetStep → Type 0) (f : ℕ → Work)
    → ((i : ℕ) (x : List SetStep) → Done (f i) x → Round i x)
    → (is : List ℕ) (xs : List (List SetStep)) → AllDone (map f is) xs → OneEach is Round xs
done_each Round f h [] [] o = tt
done_each Round f h [] (x ∷ xs) o = absurd o
done_each Round f h (i ∷ is) [] o = absurd o
done_each Round f h (i ∷ is) (x ∷ xs) o = (h i x o.0, done_each Round f h is xs o.1)

pub mixing_done : (c : Command) (ρ : Environment) (a : ℕ) (l : List SetStep) → Mixing c ρ a l → Done (work c ρ a) l
unfolding Mixing work
mixing_done (Command.assignment p v) ρ a l m =
    subst (Done (Work.one (record { place = p; value = v; environment = ρ }))) (sym m)
    (Work.nothing, (refl, refl), tt)
mixing_done (seq c d) ρ a l m =
    let behind : l ≡ m.0 ++ m.1 = m.4 in
    subst (Done (Work.then (work c ρ (first_room a c d)) (work d ρ (second_room a c d)))) (sym behind)
    (then_done (work c ρ (first_room a c d)) (work d ρ (second_room a c d)) m.0 m.1
    (mixing_done c ρ (first_room a c d) m.0 m.2) (mixing_done d ρ (second_room a c d) m.1 m.3))
mixing_done (loop kind n b) ρ a l m =
    let f : ℕ → Work = λ i. work b (with_counter i ρ) (round_room a kind n b i) in
    together_done kind (map f (up_from 0 n)) m.0 l
    (each_done (λ i x. Mixing b (with_counter i ρ) (round_room a kind n b i) x) f
    (λ i x q. mixing_done b (with_counter i ρ) (round_room a kind n b i) x q) (up_from 0 n) m.0 m.1)
    m.2
mixing_done (new c b) ρ a l m = mixing_done b (with_region (region_room a c b) ρ) (body_room a c b) l m

one_done : (s : SetStep) (l : List SetStep) → Done (Work.one s) l → l ≡ s ∷ []
one_done s [] h = absurd h
one_done s (u ∷ l) h = go l (subst (λ (w : Work). Done w l) h.1.1 h.2)
  where
    go : (l : List SetStep) → Done Work.nothing l → u ∷ l ≡ s ∷ []
    go [] k = ap (λ (x : SetStep). x ∷ []) (sym h.1.0)
    go (x ∷ l) k = absurd k.1

pub done_mixing : (c : Command) (ρ : Environment) (a : ℕ) (l : List SetStep) → Done (work c ρ a) l → Mixing c ρ a l
unfolding Mixing work
done_mixing (Command.assignment p v) ρ a l h = one_done (record { place = p; value = v; environment = ρ }) l h
done_mixing (seq c d) ρ a l h =
    let p : Parted (work c ρ (first_room a c d)) (work d ρ (second_room a c d)) l =
    done_then (work c ρ (first_room a c d)) (work d ρ (second_room a c d)) l h in (
      p.0,
      p.1,
      done_mixing c ρ (first_room a c d) p.0 p.2,
      done_mixing d ρ (second_room a c d) p.1 p.3,
      p.4,
    )
done_mixing (loop kind n b) ρ a l h =
    let f : ℕ → Work = λ i. work b (with_counter i ρ) (round_room a kind n b i) in
    let r : RoundsDone kind (map f (up_from 0 n)) l = done_together kind (map f (up_from 0 n)) l h in (
      r.0,
      done_each (λ i x. Mixing b (with_counter i ρ) (round_room a kind n b i) x) f
          (λ i x q. done_mixing b (with_counter i ρ) (round_room a kind n b i) x q) (up_from 0 n) r.0 r.1,
      r.2,
    )
done_mixing (new c b) ρ a l h = done_mixing b (with_region (region_room a c b) ρ) (body_room a c b) l h
