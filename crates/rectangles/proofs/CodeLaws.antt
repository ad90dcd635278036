-- The codes that fill takes.
use Rattle.std.proofs.Common.{◌≡◌, ℕ, ◌%◌, ◌<◌, ◌≤◌, true, arith}
use Rattle.ground.specs.Tests.{between}
use Rattle.ground.proofs.TestLaws.{or_cases, between-low, between-high}
use Rattle.rectangles.specs.Functions.{is_graphic}

-- a code of GL or GR is a byte, and its lowest seven bits are no control
pub graphic-byte : (n : ℕ) → is_graphic n ≡ true → (n < 256) × (0x20 ≤ n % 128)
graphic-byte n h =
    or_cases (between 0x20 n 0x7F) (between 0xA0 n 0xFF) h
    (λ e. omega (arith, between-low 0x20 n 0x7F e, between-high 0x20 n 0x7F e))
    (λ e. omega (arith, between-low 0xA0 n 0xFF e, between-high 0xA0 n 0xFF e))
