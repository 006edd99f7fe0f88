-- A text that is written piece by piece to the front of a lent list: what is written, what is left to write, and that what lies behind stays.
use mathlib.Core.Path.{◌≡◌, refl, sym, ap, ◌∙◌}
use Prim.Native.Nat.{ℕ, suc, ◌+◌, ◌≤◌, ◌<◌}
use native.Mathlib.Omega.{arith}
use mathlib.Core.List.{List, [], ◌∷◌, ◌++◌, append_assoc, append-nil}
use lib.ListN.{length, drop, set, get_or, length-append, length-drop}
use lib.Seq.{set_at, take_at, drop_at, drop-drop, drop-cons, append_snoc}
use borrow.Rule.Slice.PartMut.{mid_of, put_mid}
use Rattle.model.specs.Lists.{laid}
use Rattle.laws.proofs.Stores.{laid_after}

-- of the text `whole` a part is written, up to `at`, and `left` is to come; the list, which was `was`, is `is` by now
pub record Writing {A : Type 0} (whole was left : List A) (at : ℕ) (is : List A) : Type 0 where
  pub part : List A
  pub front : part ++ left ≡ whole
  pub size : length part ≡ at
  pub holds : is ≡ laid part was

module _ {A : Type 0} {whole was : List A} where
  pub none_written : Writing whole was whole 0 was
  none_written = record { part = []; front = refl; size = refl; holds = refl }

  -- a piece that was written to the front of all
  pub first_written : (b left : List A) → b ++ left ≡ whole → (at : ℕ) → length b ≡ at → Writing whole was left at (laid b was)
  first_written b left e at h = record { part = b; front = e; size = h; holds = refl }

  module _ {left : List A} {at : ℕ} {is : List A} (w : Writing whole was left at is) where
    pub left_over : at + length left ≡ length whole
    left_over = omega (arith, length-append w.part left, ap length w.front, w.size)

    pub same_size : at ≤ length was → length is ≡ length was
    same_size h =
        rw w.holds (omega (arith, length-append w.part (drop (length w.part) was), length-drop (length w.part) was, w.size))

    pub all_written : left ≡ [] → (is ≡ laid whole was) × (at ≡ length whole)
    all_written e =
        let p : w.part ≡ whole = sym (append-nil w.part) ∙ ap (λ (l : List A). w.part ++ l) (sym e) ∙ w.front in
        (w.holds ∙ ap (λ (l : List A). laid l was) p, sym w.size ∙ ap length p)

    -- a list, one of whose elements is to be written next, up to there and from there on
    split : is ≡ w.part ++ drop at was
    split = w.holds ∙ ap (λ (n : ℕ). w.part ++ drop n was) w.size

    longer : (b : List A) → length (w.part ++ b) ≡ at + length b
    longer b = omega (arith, length-append w.part b, w.size)

    joined : (b rest : List A) → left ≡ b ++ rest → (w.part ++ b) ++ rest ≡ whole
    joined b rest e = append_assoc w.part b rest ∙ ap (λ (l : List A). w.part ++ l) (sym e) ∙ w.front

    -- a piece of n elements that was written to the front of all from `at` on
    pub write_piece : (b rest : List A) → left ≡ b ++ rest → (n : ℕ) → length b ≡ n → (k : ℕ) → length was ≤ at + k
        → Writing whole was rest (at + n) (put_mid at k is (laid b (mid_of at k is)))
    write_piece b rest e n h k room =
        record {
          part = w.part ++ b;
          front = joined b rest e;
          size = longer b ∙ ap (λ (m : ℕ). at + m) h;
          holds = rw split (laid_after at k w.part b was w.size room);
        }

    -- a piece that was written over a part of its length
    pub write_over : (b rest : List A) → left ≡ b ++ rest → (k : ℕ) → length b ≡ k → Writing whole was rest (at + k) (put_mid at k is b)
    write_over b rest e k h =
        record {
          part = w.part ++ b;
          front = joined b rest e;
          size = longer b ∙ ap (λ (n : ℕ). at + n) h;
          holds =
              rw (split, take_at w.part (drop at was) at w.size, drop_at w.part (drop at was) at w.size, drop-drop, longer b, h, append_assoc w.part b (drop (at + k) was));
        }

    -- one element
    pub write_one : (a : A) (rest : List A) → left ≡ a ∷ rest → at < length was → Writing whole was rest (at + 1) (set is at a)
    write_one a rest e h =
        let o : is ≡ w.part ++ get_or was at a ∷ drop (suc at) was = split ∙ ap (λ (l : List A). w.part ++ l) (drop-cons was at a h) in
        let n : length (w.part ++ (a ∷ [])) ≡ suc at = omega (arith, longer (a ∷ [])) in
        record {
          part = w.part ++ (a ∷ []);
          front = joined (a ∷ []) rest e;
          size = longer (a ∷ []);
          holds = rw (o, set_at w.part (get_or was at a) (drop (suc at) was) a at w.size, n, append_snoc);
        }
