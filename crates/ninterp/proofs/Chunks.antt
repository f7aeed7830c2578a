-- The whole records of an input, one after the other, as the code takes them: at most so many, each of so many bytes. Assumes nothing.
use Rattle.std.proofs.Common.{◌≡◌, refl, sym, ap, ◌∙◌, ℕ, zero, suc, ◌+◌, ◌-◌, ◌≤◌, ◌<◌, ◌⊎◌, inl, inr, Option, Some, None, List, ◌++◌, length, take, drop, arith, Bor, length-append}
use lib.Seq.{drop-drop}
use Rattle.std.specs.Iterator.Adapters.{take_source, take_count, take_steps}
use Rattle.std.specs.Slice.Iter.{chunks_exact_rest, chunks_exact_size, chunks_exact_steps}
use Rattle.std.specs.declared.iter.Take.{Take}
use Rattle.std.specs.declared.slice.ChunksExact.{ChunksExact}
use Rattle.std.proofs.Math.Seq.{take-append_seam, drop-append_seam}

-- what is left from a place on, and how many may still be taken
pub record Chunked (size : ℕ) (input : List ℕ) (at left : ℕ) (it : Take (ChunksExact ℕ)) : Type 0 where
  pub rest : chunks_exact_rest (take_source it) ≡ drop at input
  pub sized : chunks_exact_size (take_source it) ≡ size
  pub count : take_count it ≡ left

pub chunk_begin : {size : ℕ} {input : List ℕ} {most : ℕ} {it made : Take (ChunksExact ℕ)} {chunks : ChunksExact ℕ} → chunks_exact_rest chunks ≡ input → chunks_exact_size chunks ≡ size
    → take_source made ≡ chunks → take_count made ≡ most → it ≡ made → Chunked size input 0 most it
chunk_begin r z s n i = record {
  rest = ap (λ (x : Take (ChunksExact ℕ)). chunks_exact_rest (take_source x)) i ∙ ap chunks_exact_rest s ∙ r;
  sized = ap (λ (x : Take (ChunksExact ℕ)). chunks_exact_size (take_source x)) i ∙ ap chunks_exact_size s ∙ z;
  count = ap take_count i ∙ n;
}

-- the next one
pub record Chunk (size : ℕ) (input : List ℕ) (at left : ℕ) (x : List ℕ) : Type 0 where
  pub some : 0 < left
  pub fits : size ≤ length (drop at input)
  pub bytes : x ≡ take size (drop at input)

module _ {size : ℕ} {input : List ℕ} {at left : ℕ} (s t : Take (ChunksExact ℕ)) (r : Option (Bor (List ℕ))) (c : Chunked size input at left s) (h : take_steps chunks_exact_steps s r t) where
  module _ (x : Bor (List ℕ)) (e : r ≡ Some x) where
    joined : drop at input ≡ x.now ++ chunks_exact_rest (take_source t)
    joined = let g = rw e at h in sym c.rest ∙ g.0.1.0

    long : length x.now ≡ size
    long = let g = rw e at h in g.0.1.1 ∙ c.sized

    past : drop size (drop at input) ≡ chunks_exact_rest (take_source t)
    past = ap (drop size) joined ∙ ap (λ (n : ℕ). drop n (x.now ++ chunks_exact_rest (take_source t))) (sym long) ∙ drop-append_seam x.now (chunks_exact_rest (take_source t))

    pub chunk_here : Chunk size input at left x.now
    chunk_here = record {
      some = let g = rw e at h in let n : take_count t + 1 ≡ left = g.1 ∙ c.count in omega arith;
      fits = omega (arith, long, ap length joined ∙ length-append x.now (chunks_exact_rest (take_source t)));
      bytes = sym (ap (take size) joined ∙ ap (λ (n : ℕ). take n (x.now ++ chunks_exact_rest (take_source t))) (sym long) ∙ take-append_seam x.now (chunks_exact_rest (take_source t)));
    }

    pub chunk_next : Chunked size input (at + size) (left - 1) t
    chunk_next = record {
      rest = sym past ∙ drop-drop size at input;
      sized = let g = rw e at h in g.0.0 ∙ c.sized;
      count = let g = rw e at h in let n : take_count t + 1 ≡ left = g.1 ∙ c.count in omega arith;
    }

  pub chunk_last : r ≡ None → (left ≡ 0) ⊎ (length (drop at input) < size)
  chunk_last e = go left refl
    where
      go : (n : ℕ) → left ≡ n → (left ≡ 0) ⊎ (length (drop at input) < size)
      go zero q = inl q
      go (suc n) q = let g = rw e at h in inr (omega (arith, (g (omega (arith, q, c.count))).1.0, ap length c.rest, c.sized))
