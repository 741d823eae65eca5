-- The table of calls: the cycles that each call puts, for the replies that the chip gives.
use Rattle.std.specs.Prelude.{◌≡◌, ℕ, ◌+◌, ◌-◌, ◌/◌, ◌%◌, ◌≤◌, List, [], ◌∷◌, ◌++◌, length, Some, None, Option}
use Rattle.flash.specs.Addresses.{row_at}
use Rattle.flash.specs.declared.address.Column.{Column}
use Rattle.flash.specs.declared.address.Row.{Row}
use Rattle.flash.specs.declared.cycle.Cycle.{Cycle}
use Rattle.flash.specs.declared.page.Page.{Page}
use Rattle.flash.specs.declared.part.Part.{Part}
use Rattle.bus.specs.States.{cycles_in}
use Rattle.bus.specs.declared.act.Confirm.TheVariants as confirm
use Rattle.commands.specs.Polls.{polled, left, poll_cycles}
use Rattle.commands.specs.Sequences.{reset_cycles, identity_cycles, erase_cycles, program_cycles, copy_cycles, read_cycles, copy_read_cycles}
use Rattle.calls.specs.declared.call.Call.{Call}
use Rattle.calls.specs.declared.call.Call.TheVariants as call

-- the column of a page's factory mark
abbrev pub mark_column : Column
mark_column = record { number = 2048 }

abbrev pub block_row : ℕ → Row
block_row b = row_at (record { block = b; page = 0 })

-- the page that a slip names: its number is 8 times the page's row, and its kind, 1 to 3
abbrev pub slip_page : ℕ → Page
slip_page n = record { block = n / 512 % 65536; page = n / 8 % 64 }

-- a page of the block that a chain slip names
abbrev pub chain_page : ℕ → ℕ → Page
chain_page n g = record { block = (slip_page n).block; page = g }

-- what follows a poll goes only to a chip that became ready
abbrev pub once_ready : Option ℕ → List Cycle → List Cycle
once_ready None cs = []
once_ready (Some s) cs = cs

-- the cycles of a call, with the bytes to program and the chip's replies; past their end a reply is FFh
abbrev pub cycles : Option Part → ℕ → Call → List ℕ → List ℕ → List Cycle
cycles o n call.Identify bs rs = reset_cycles n rs ++ once_ready (polled n rs) (identity_cycles (left n rs))
cycles o n (call.Look p) bs rs = read_cycles o n (row_at p) mark_column 1 rs
cycles o n call.Close bs rs = []
cycles o n (call.Read p c len) bs rs = read_cycles o n (row_at p) c len rs
cycles o n (call.Erase b) bs rs = erase_cycles o (block_row b)
cycles o n (call.Program p c) bs rs = program_cycles o (row_at p) c bs confirm.Program
cycles o n (call.CacheFirst p c) bs rs = program_cycles o (row_at p) c bs confirm.Cache
cycles o n (call.CacheNext s g c) bs rs = poll_cycles n rs ++ once_ready (polled n rs) (program_cycles o (row_at (chain_page s g)) c bs confirm.Cache)
cycles o n (call.CacheLast s g c) bs rs = poll_cycles n rs ++ once_ready (polled n rs) (program_cycles o (row_at (chain_page s g)) c bs confirm.Program)
cycles o n (call.Copy p q) bs rs = copy_read_cycles o n (row_at p) rs ++ once_ready (polled n rs) (copy_cycles o (row_at q))
cycles o n (call.Settle s) bs rs = poll_cycles n rs
cycles o n (call.Abandon s) bs rs = reset_cycles n rs
cycles o n call.Reset bs rs = reset_cycles n rs
cycles o n (call.Pick b) bs rs = []
cycles o n (call.Record b) bs rs = []

-- the cycles of a call to a chip that is ready: each poll is 70h and C0h
abbrev pub ready_cycles : Option Part → Call → List ℕ → List Cycle
ready_cycles o c bs = cycles o 1 c bs (0xC0 ∷ [])

abbrev pub row_count : Option Part → ℕ
row_count o = cycles_in o - 2

abbrev pub address_count : Option Part → ℕ
address_count o = row_count o + 2

abbrev pub poll_count : ℕ → ℕ
poll_count n = n + 1

-- 00h, an address, 30h or 35h, and a poll
abbrev pub open_count : Option Part → ℕ → ℕ
open_count o n = address_count o + 2 + poll_count n

-- the most cycles of a call with so many bytes to program
abbrev pub most : Option Part → ℕ → Call → ℕ → ℕ
most o n call.Identify z = 1 + poll_count n + 7
most o n (call.Look p) z = open_count o n + 1 + 1
most o n call.Close z = 0
most o n (call.Read p c len) z = open_count o n + 1 + len
most o n (call.Erase b) z = 1 + row_count o + 1
most o n (call.Program p c) z = 1 + address_count o + z + 1
most o n (call.CacheFirst p c) z = 1 + address_count o + z + 1
most o n (call.CacheNext s g c) z = poll_count n + (1 + address_count o + z + 1)
most o n (call.CacheLast s g c) z = poll_count n + (1 + address_count o + z + 1)
most o n (call.Copy p q) z = open_count o n + (1 + address_count o + 1)
most o n (call.Settle s) z = poll_count n
most o n (call.Abandon s) z = 1 + poll_count n
most o n call.Reset z = 1 + poll_count n
most o n (call.Pick b) z = 0
most o n (call.Record b) z = 0

-- whatever the chip replies, a call puts no more
abbrev pub WithinMost : Option Part → ℕ → Call → ℕ → Type 0
WithinMost o n c z = (bs rs : List ℕ) → length bs ≡ z → length (cycles o n c bs rs) ≤ most o n c z
