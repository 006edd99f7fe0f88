-- An element put into a list, or taken out, the others moving by one; in an array of k elements the last one is lost.
use mathlib.Core.Path.{◌≡◌, refl, sym, ap, ◌∙◌}
use Prim.Native.Nat.{ℕ, zero, suc, ◌+◌, ◌≤◌, ◌<◌}
use native.Mathlib.Nat.{le_of_suc-le-suc, not-suc-le-zero}
use native.Mathlib.Numerals.{add-one}
use native.Mathlib.Omega.{arith}
use mathlib.Core.List.{List, [], ◌∷◌, ◌++◌, map, map-append}
use lib.ListN.{length, take, drop, get_or, set, length-take, length-append, take-append-drop}
use lib.Seq.{take-take, take_all, take_at, drop_at, take-append-le, drop-append-add, length-take-le, append_snoc, drop-cons, take-suc-set, drop-set-lt, set_split}
use Rattle.model.specs.Lists.{tabulate}
use Rattle.laws.proofs.ListLaws.{tabulate_front}
use Rattle.laws.proofs.MapLaws.{take_map, drop_map}

module _ {A : Type 0} where
  -- e put in at index i
  abbrev pub put_in : ℕ → A → List A → List A
  put_in i e l = take i l ++ e ∷ drop i l

  -- the element at index i taken out
  abbrev pub cut_out : ℕ → List A → List A
  cut_out i l = take i l ++ drop (i + 1) l

  -- the values of f with e put in at index i
  abbrev pub shifted : ℕ → A → (ℕ → A) → ℕ → A
  shifted zero e f zero = e
  shifted zero e f (suc k) = f k
  shifted (suc i) e f zero = f zero
  shifted (suc i) e f (suc k) = shifted i e (λ j. f (suc j)) k

  -- the element at k is exchanged with the carried one, and the index goes one further
  pub carry_step : (l : List A) (k : ℕ) (c d : A) → k < length l → put_in (k + 1) (get_or l k d) (set l k c) ≡ put_in k c l
  carry_step l k c d h = rw (add-one, take-suc-set l k c, drop-set-lt (suc k) l k c (omega arith), append_snoc, drop-cons l k d)

  pub carry_end : (l m : List A) (n k : ℕ) (c : A) → length l ≡ n → n ≤ k → put_in k c l ≡ m → l ≡ take n m
  carry_end l m n k c e g h = sym (take_at l (c ∷ drop k l) n e) ∙ ap (take n) (rw (take_all k l (omega arith)) at h)

  -- the element behind k is stored there, and the index goes one further
  pub cut_step : (l : List A) (k : ℕ) (d : A) → k + 1 < length l → cut_out (k + 1) (set l k (get_or l (k + 1) d)) ≡ cut_out k l
  cut_step l k d h =
      let g : suc k < length l = omega arith in
      let e : k < length l = omega arith in
      rw (add-one k, add-one (suc k), take-suc-set l k (get_or l (suc k) d), drop-set-lt (suc (suc k)) l k (get_or l (suc k) d) (omega arith), append_snoc, drop-cons l (suc k) d)

  pub cut_end : (l m : List A) (n k : ℕ) → n ≤ length l → n ≤ k → cut_out k l ≡ m → take n l ≡ take n m
  cut_end l m n k e g h =
      sym (take-append-le n (take k l) (drop (k + 1) l) (omega (arith, length-take k l)) ∙ take-take n k l g) ∙ ap (take n) h

  -- what was put in is taken out again; what is put in where another was taken out is written over it
  pub cut_put : (i : ℕ) (e : A) (l : List A) → i ≤ length l → cut_out i (put_in i e l) ≡ l
  cut_put i e l h =
      let n : length (take i l) ≡ i = length-take-le i l h in
      rw (take_at (take i l) (e ∷ drop i l) i n, rw n at (drop-append-add (take i l) (e ∷ drop i l) 1)) (take-append-drop i l)

  pub put_cut : (i : ℕ) (e : A) (l : List A) → i < length l → (put_in i e (cut_out i l) ≡ set l i e) × (i ≤ length (cut_out i l))
  put_cut i e l h =
      let n : length (take i l) ≡ i = length-take-le i l (omega arith) in (
        rw (take_at (take i l) (drop (i + 1) l) i n, drop_at (take i l) (drop (i + 1) l) i n, add-one) (sym (set_split l i e h)),
        omega (arith, length-append (take i l) (drop (i + 1) l)),
      )

  pub get_or_put : (i k : ℕ) (e d : A) (l : List A) → i ≤ length l → get_or (put_in i e l) k d ≡ shifted i e (λ j. get_or l j d) k
  get_or_put zero zero e d l h = refl
  get_or_put zero (suc k) e d l h = refl
  get_or_put (suc i) k e d [] h = absurd (not-suc-le-zero h)
  get_or_put (suc i) zero e d (x ∷ l) h = refl
  get_or_put (suc i) (suc k) e d (x ∷ l) h = get_or_put i k e d l (le_of_suc-le-suc h)

  pub tabulate_put : (i n : ℕ) (e : A) (f : ℕ → A) → i ≤ n → tabulate (shifted i e f) (suc n) ≡ put_in i e (tabulate f n)
  tabulate_put zero n e f h = tabulate_front (shifted zero e f) n
  tabulate_put (suc i) zero e f h = absurd (not-suc-le-zero h)
  tabulate_put (suc i) (suc n) e f h = rw (tabulate_front (shifted (suc i) e f) (suc n), tabulate_front f n, tabulate_put i n e (λ j. f (suc j)) (le_of_suc-le-suc h))

module _ {A B : Type 0} (f : A → B) where
  pub map_put : (i : ℕ) (e : A) (l : List A) → map f (put_in i e l) ≡ put_in i (f e) (map f l)
  map_put i e l = rw (map-append, take_map, drop_map)

  pub map_cut : (i : ℕ) (l : List A) → map f (cut_out i l) ≡ cut_out i (map f l)
  map_cut i l = rw (map-append, take_map, drop_map)
