-- The laws of what is put into a buffer, and of writers one after another.
use mathlib.Core.Path.{◌≡◌, refl, sym, ap, ◌∙◌}
use mathlib.Core.List.{List, [], ◌∷◌, ◌++◌, append_assoc}
use Prim.Native.Nat.{ℕ, suc, ◌+◌, ◌-◌, ◌≤◌, ◌<◌}
use native.Mathlib.Nat.{add-zero, add_assoc}
use native.Mathlib.Numerals.{add-one}
use native.Mathlib.Omega.{arith}
use lib.ListN.{length, take, drop, set, length-append, length-take, length-drop, take-append-drop}
use lib.Seq.{set_split, take-set-le, take_at, drop_at, length-take-le, drop-append-add, drop-drop}
use borrow.Author.Tests.{le-leb}
use borrow.Rule.Slice.PartMut.{put_mid}
use Rattle.lines.specs.Put.{put, room_for, all_into}
use Rattle.lines.specs.Scaffolding.{Wrote}

pub put_none : (d : List ℕ) (at : ℕ) → put d at [] ≡ d
unfolding put
put_none d at = rw add-zero (take-append-drop at d)

pub put_one : (d : List ℕ) (at b : ℕ) → at < length d → set d at b ≡ put d at (b ∷ [])
unfolding put
put_one d at b h = rw (set_split d at b h, add-one at)

pub put-length : (d : List ℕ) (at : ℕ) (xs : List ℕ) → at + length xs ≤ length d → length (put d at xs) ≡ length d
unfolding put
put-length d at xs h = simp (length-append, length-take, length-drop) (omega arith)

-- xs, and ys after it
pub put-put : (d : List ℕ) (at : ℕ) (xs ys : List ℕ) → at ≤ length d → put (put d at xs) (at + length xs) ys ≡ put d at (xs ++ ys)
unfolding put
put-put d at xs ys h =
    let front = take at d ++ xs in
    let rest = drop (at + length xs) d in
    let n : length (take at d ++ xs) ≡ at + length xs = rw (length-append, length-take-le at d h) in
    let whole : take at d ++ (xs ++ rest) ≡ front ++ rest = sym (append_assoc (take at d) xs rest) in
    let t : take (at + length xs) (take at d ++ (xs ++ rest)) ≡ front = ap (take (at + length xs)) whole ∙ take_at front rest (at + length xs) n in
    let u : drop (at + length xs + length ys) (take at d ++ (xs ++ rest)) ≡ drop (at + (length xs + length ys)) d =
    ap (drop (at + length xs + length ys)) whole
    ∙ ap (λ (k : ℕ). drop (k + length ys) (front ++ rest)) (sym n)
    ∙ drop-append-add front rest (length ys)
    ∙ drop-drop (length ys) (at + length xs) d
    ∙ ap (λ (k : ℕ). drop k d) (add_assoc at (length xs) (length ys)) in
    rw (t, u, length-append, append_assoc, append_assoc)

-- the byte after xs stored first, and then xs
pub put_last : (d : List ℕ) (at : ℕ) (xs : List ℕ) (b : ℕ) → at + length xs < length d → put (set d (at + length xs) b) at xs ≡ put d at (xs ++ (b ∷ []))
unfolding put
put_last d at xs b h =
    let m = at + length xs in
    let front : take at (set d (at + length xs) b) ≡ take at d = take-set-le at d m b (omega arith) in
    let back : drop (at + length xs) (set d (at + length xs) b) ≡ b ∷ drop (suc (at + length xs)) d =
    ap (drop m) (set_split d m b h) ∙ drop_at (take m d) (b ∷ drop (suc m) d) m (length-take-le m d (omega arith)) in
    let next : at + (length xs + 1) ≡ suc (at + length xs) = omega arith in
    rw (front, back, length-append, next, append_assoc)

-- ---- writers

pub then : {d : List ℕ} {at : ℕ} {xs : List ℕ} {e : List ℕ} {r : ℕ} {ys f : List ℕ} {s : ℕ}
    → Wrote d at xs e r → at ≤ length d → Wrote e r ys f s → Wrote d at (xs ++ ys) f s
then {d} {at} {xs} {e} {r} {ys} {f} {s} w h v = record {
  bytes = v.bytes ∙ rw (w.bytes, w.next) (put-put d at xs ys h);
  next = v.next ∙ rw (w.next, length-append) (omega arith);
}

pub wrote_none : (d : List ℕ) (at : ℕ) → Wrote d at [] d at
wrote_none d at = record { bytes = sym (put_none d at); next = omega arith }

pub wrote_one : (d : List ℕ) (at b : ℕ) → at < length d → Wrote d at (b ∷ []) (set d at b) (at + 1)
wrote_one d at b h = record { bytes = put_one d at b h; next = refl }

pub wrote_length : {d : List ℕ} {at : ℕ} {xs : List ℕ} {e : List ℕ} {r : ℕ} → Wrote d at xs e r → at + length xs ≤ length d → length e ≡ length d
wrote_length {d} {at} {xs} {e} {r} w h = ap length w.bytes ∙ put-length d at xs h

pub wrote_take : {d xs e : List ℕ} {r : ℕ} → Wrote d 0 xs e r → take r e ≡ xs
unfolding put
wrote_take {d} {xs} {e} {r} w =
    let n : length xs ≡ r = omega (arith, w.next) in
    ap (take r) w.bytes ∙ take_at xs (drop (0 + length xs) d) r n

pub wrote_copy : (d : List ℕ) (at : ℕ) (xs ys : List ℕ) → ys ≡ xs → Wrote d at xs (put_mid at (at + length xs - at) d ys) (at + length xs)
unfolding put
wrote_copy d at xs ys e = let k : at + length xs - at ≡ length xs = omega arith in record { bytes = rw (k, e, drop-drop); next = refl }

-- ---- bytes put where they all have room, for a caller that saw to it
pub all_there : (xs d : List ℕ) (at : ℕ) → at + length xs ≤ length d → all_into xs d at ≡ put d at xs
unfolding all_into room_for
all_there xs d at h = rw (le-leb (at + length xs) (length d) h)
