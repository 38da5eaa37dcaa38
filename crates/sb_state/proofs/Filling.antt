-- Bytes that are filled up to a page.
use Rattle.std.proofs.Common.{◌≡◌, ℕ, ◌+◌, ◌-◌, ◌*◌, ◌<◌, ◌≤◌, ◌++◌, List, [], ◌∷◌, length, take, drop, replicate, length-append, ap, sym, ◌∙◌, arith, append_assoc}
use Rattle.std.proofs.lemmas.List.{take_all, length-replicate, length-take, replicate_more}
use Rattle.sb_state.specs.Start.{page_padded, page_of}

-- bytes that are no whole page are their first page
pub short_page : (bytes : List ℕ) → length bytes < 4096 → bytes ≡ take 4096 bytes
short_page bytes short = sym (take_all 4096 bytes (omega arith))

-- one more byte of filler behind a chunk
pub filled_more : (chunk bytes : List ℕ) (filler count : ℕ) → length chunk ≤ count
    → bytes ≡ chunk ++ replicate (count - length chunk) filler
    → bytes ++ filler ∷ [] ≡ chunk ++ replicate (count + 1 - length chunk) filler
filled_more chunk bytes filler count within so_far =
    let next : count + 1 - length chunk ≡ count - length chunk + 1 = omega arith in
    ap (λ (all : List ℕ). all ++ filler ∷ []) so_far ∙ append_assoc chunk (replicate (count - length chunk) filler) (filler ∷ [])
    ∙ ap (λ (rest : List ℕ). chunk ++ rest) (replicate_more (count - length chunk) filler
    ∙ ap (λ (many : ℕ). replicate many filler) (sym next))

-- a chunk filled up has as many bytes as a page
pub filled_whole : (chunk : List ℕ) (filler : ℕ) → length chunk ≤ 4096 → length (page_padded filler chunk) ≡ 4096
filled_whole chunk filler within =
    omega (arith, length-append chunk (replicate (4096 - length chunk) filler), length-replicate (4096 - length chunk) filler)

part_size : (bytes : List ℕ) → length (take 4096 bytes) ≤ 4096
part_size bytes = let size = length-take 4096 bytes in omega (arith, size)

-- so each page of bytes that go over several pages has
pub page_size : (filler : ℕ) (bytes : List ℕ) (page : ℕ) → length (page_of filler bytes page) ≡ 4096
page_size filler bytes page = filled_whole (take 4096 (drop (4096 * page) bytes)) filler (part_size (drop (4096 * page) bytes))
