-- The walk to a byte of a buffer: a page number and an offset in that page.
use Rattle.std.specs.Prelude.{ℕ, ◌+◌, ◌*◌, ◌/◌, ◌%◌, ◌≤◌, cond, ◌&&◌, List, length, nat_le, slice_index}
use Rattle.memory.specs.declared.buffer.Buffer.{Buffer}
use Rattle.memory.specs.Kinds.{each}

-- eight bytes of memory, the low one first
abbrev pub word : List ℕ → ℕ → ℕ
word m at =
    slice_index m at + slice_index m (at + 1) * 256 + slice_index m (at + 2) * 65536 + slice_index m (at + 3) * 16777216
    + slice_index m (at + 4) * 4294967296 + slice_index m (at + 5) * 1099511627776 + slice_index m (at + 6) * 281474976710656
    + slice_index m (at + 7) * 72057594037927936

-- a page number that no address of 64 bits has
abbrev pub nowhere : ℕ
nowhere = 4503599627370496

-- entry k of the page list at `list`, as a page number and the low 12 bits; no page where it is not in the list's page of memory
unfoldable pub entry : List ℕ → ℕ → ℕ → ℕ × ℕ
entry m list k =
    cond (nat_le (list % 4096 + 8 * k + 8) 4096 && nat_le (list + 8 * k + 8) (length m))
    (word m (list + 8 * k) / 4096, word m (list + 8 * k) % 4096) (nowhere, 0)

-- entry k of the page list at `list` is in the list's page of memory
abbrev pub Lies : List ℕ → ℕ → ℕ → Type 0
Lies m list k = (list % 4096 + 8 * k + 8 ≤ 4096) × (list + 8 * k + 8 ≤ length m)

-- the offset of a buffer's first byte in its page
abbrev pub offset : List ℕ → Buffer → ℕ
offset m b = each b.kind (b.address % 4096) (entry m b.address 0).1

-- the number of a buffer's page k, from 0
abbrev pub page : List ℕ → Buffer → ℕ → ℕ
page m b k = each b.kind (b.address / 4096 + k) (entry m b.address k).0

-- how many pages a buffer's bytes lie in; of a page list, how many entries it has
abbrev pub page_count : List ℕ → Buffer → ℕ
page_count m b = (offset m b + b.length + 4095) / 4096

-- page number and offset of a byte of a buffer
abbrev pub walked : List ℕ → Buffer → ℕ → ℕ × ℕ
walked m b byte = (page m b ((offset m b + byte) / 4096), (offset m b + byte) % 4096)
