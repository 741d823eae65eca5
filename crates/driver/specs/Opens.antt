-- A session that is opened.
use Rattle.std.specs.Prelude.{ℕ, cond, replicate, None, ◌==◌, nat_lt}
use Rattle.flash.specs.Records.{first_record}
use Rattle.driver.specs.Views.{View}
use Rattle.driver.specs.declared.standing.Standing.TheVariants as standing

-- how often a poll asks: at least once, and at most 1,000 times
abbrev pub poll_count : ℕ → ℕ
poll_count n = cond (n == 0) 1 (cond (nat_lt 1000 n) 1000 n)

-- the part unknown, nothing known of any block, and nothing under way
abbrev pub opened : ℕ → View
opened n = record { part = None; polls = poll_count n; blocks = replicate 2048 first_record; standing = standing.Ready }
