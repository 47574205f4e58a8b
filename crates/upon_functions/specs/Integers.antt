-- The integer types: for each its word, and the least and the greatest number that it holds. `usize` and `isize` have
-- 64 bits.
use Rattle.std.specs.Prelude.{pos, negsuc, codes}
use Rattle.upon_types.specs.Misfits.{Range}

-- the range of `u8`
abbrev pub u8_range : Range
u8_range = record { word = codes "u8"; least = pos 0; greatest = pos 255 }

-- the range of `u16`
abbrev pub u16_range : Range
u16_range = record { word = codes "u16"; least = pos 0; greatest = pos 65535 }

-- the range of `u32`
abbrev pub u32_range : Range
u32_range = record { word = codes "u32"; least = pos 0; greatest = pos 4294967295 }

-- the range of `u64`
abbrev pub u64_range : Range
u64_range = record { word = codes "u64"; least = pos 0; greatest = pos 18446744073709551615 }

-- the range of `u128`
abbrev pub u128_range : Range
u128_range = record { word = codes "u128"; least = pos 0; greatest = pos 340282366920938463463374607431768211455 }

-- the range of `usize`
abbrev pub usize_range : Range
usize_range = record { word = codes "usize"; least = pos 0; greatest = pos 18446744073709551615 }

-- the range of `i8`
abbrev pub i8_range : Range
i8_range = record { word = codes "i8"; least = negsuc 127; greatest = pos 127 }

-- the range of `i16`
abbrev pub i16_range : Range
i16_range = record { word = codes "i16"; least = negsuc 32767; greatest = pos 32767 }

-- the range of `i32`
abbrev pub i32_range : Range
i32_range = record { word = codes "i32"; least = negsuc 2147483647; greatest = pos 2147483647 }

-- the range of `i64`
abbrev pub i64_range : Range
i64_range = record { word = codes "i64"; least = negsuc 9223372036854775807; greatest = pos 9223372036854775807 }

-- the range of `i128`
abbrev pub i128_range : Range
i128_range = record {
  word = codes "i128";
  least = negsuc 170141183460469231731687303715884105727;
  greatest = pos 170141183460469231731687303715884105727;
}

-- the range of `isize`
abbrev pub isize_range : Range
isize_range = record { word = codes "isize"; least = negsuc 9223372036854775807; greatest = pos 9223372036854775807 }
