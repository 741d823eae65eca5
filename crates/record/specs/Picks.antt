-- The block that pick answers.
use Rattle.std.specs.Prelude.{ℕ, ◌-◌, Bool, false, List, Option, slice_index_or}
use Rattle.std.specs.List.{find, range_with_len}
use Rattle.flash.specs.Records.{first_record, fit}
use Rattle.flash.specs.declared.record.BlockRecord.{BlockRecord}
use Rattle.flash.specs.declared.record.Pages.{Pages}
use Rattle.flash.specs.declared.record.Pages.TheVariants.{Stale, Blank, Last}

-- fresh and without a page, clean and not failed
abbrev pub suitable_with : Pages → Bool → Bool
suitable_with Stale f = false
suitable_with Blank f = f
suitable_with (Last p n) f = false

abbrev pub suitable : BlockRecord → Bool
suitable k = suitable_with k.pages (fit k)

-- the first suitable of n blocks from b on
abbrev pub seek : List BlockRecord → ℕ → ℕ → Option ℕ
seek ks b n = find (λ k. suitable (slice_index_or ks k first_record)) (range_with_len b n)

abbrev pub picked : List BlockRecord → ℕ → ℕ → Option ℕ
picked ks blocks from = seek ks from (blocks - from)
