-- A row of a table, and the number by which each word is named there, its kind: [1.5], [1.8]. Definitions only; assumes nothing.
use Rattle.std.specs.Prelude.{List, [], ◌∷◌, ℕ, ℤ}

-- [1.8] A row: the kind of its word, and its number.
abbrev pub Row : Type 0
Row = ℕ × ℤ

-- [1.8] The rows of a table that is lent as kinds and numbers: as many as the shorter of the two has.
unfoldable pub rows_of : List ℕ → List ℤ → List Row
rows_of [] ns = []
rows_of (k ∷ ks) [] = []
rows_of (k ∷ ks) (n ∷ ns) = (k, n) ∷ rows_of ks ns

-- [2.2] Each word's place in the table, from 0: plan, types, terms, then the words that loops alone have.
abbrev pub word_plan : ℕ
word_plan = 0

abbrev pub word_num : ℕ
word_num = 1

abbrev pub word_arr : ℕ
word_arr = 2

abbrev pub word_two : ℕ
word_two = 3

abbrev pub word_kind_in : ℕ
word_kind_in = 4

abbrev pub word_var : ℕ
word_var = 5

abbrev pub word_lit : ℕ
word_lit = 6

abbrev pub word_neg : ℕ
word_neg = 7

abbrev pub word_add : ℕ
word_add = 8

abbrev pub word_sub : ℕ
word_sub = 9

abbrev pub word_mul : ℕ
word_mul = 10

abbrev pub word_div : ℕ
word_div = 11

abbrev pub word_min : ℕ
word_min = 12

abbrev pub word_max : ℕ
word_max = 13

abbrev pub word_mappar : ℕ
word_mappar = 14

abbrev pub word_mapseq : ℕ
word_mapseq = 15

abbrev pub word_redseq : ℕ
word_redseq = 16

abbrev pub word_zip : ℕ
word_zip = 17

abbrev pub word_pair : ℕ
word_pair = 18

abbrev pub word_split : ℕ
word_split = 19

abbrev pub word_join : ℕ
word_join = 20

abbrev pub word_fst : ℕ
word_fst = 21

abbrev pub word_snd : ℕ
word_snd = 22

abbrev pub word_idx : ℕ
word_idx = 23

abbrev pub word_loops : ℕ
word_loops = 24

abbrev pub word_cells : ℕ
word_cells = 25

abbrev pub word_set : ℕ
word_set = 26

abbrev pub word_seq : ℕ
word_seq = 27

abbrev pub word_for : ℕ
word_for = 28

abbrev pub word_par : ℕ
word_par = 29

abbrev pub word_new : ℕ
word_new = 30

abbrev pub word_out : ℕ
word_out = 31

abbrev pub word_loc : ℕ
word_loc = 32

abbrev pub word_ctr : ℕ
word_ctr = 33

abbrev pub word_plus : ℕ
word_plus = 34

abbrev pub word_times : ℕ
word_times = 35

abbrev pub word_over : ℕ
word_over = 36

abbrev pub word_rest : ℕ
word_rest = 37

-- [18.3] Vectors, and the loop over lanes: behind the others, in this order.
abbrev pub word_vec : ℕ
word_vec = 38

abbrev pub word_asvec : ℕ
word_asvec = 39

abbrev pub word_asscal : ℕ
word_asscal = 40

abbrev pub word_mapvec : ℕ
word_mapvec = 41

abbrev pub word_kind_at : ℕ
word_kind_at = 42

abbrev pub word_lanes : ℕ
word_lanes = 43
