-- Small examples, computed from the rules.
use Rattle.std.specs.Prelude.{◌≡◌, refl, true, false, Some, None}
use Rattle.ground.specs.Ascii.{ascii}
use Rattle.text_places.specs.Places.{first_from}
use Rattle.number.specs.Numbers.{digits_from, plain, number_of}
use Rattle.number.specs.Ranges.{leading_range, trailing_range, leading_taken, trailing_taken}

plus_seven : number_of (ascii "+7") ≡ Some 7
unfolding ascii number_of plain digits_from
plus_seven = refl

lone_plus : number_of (ascii "+") ≡ None
unfolding ascii number_of plain digits_from
lone_plus = refl

zeros : number_of (ascii "007") ≡ Some 7
unfolding ascii number_of plain digits_from
zeros = refl

largest : number_of (ascii "4294967295") ≡ Some 4294967295
unfolding ascii number_of plain digits_from
largest = refl

too_large : number_of (ascii "4294967296") ≡ None
unfolding ascii number_of plain digits_from
too_large = refl

one_to_three : leading_range (ascii "1:3:v") ≡ Some (leading_taken 1 3 4)
unfolding ascii first_from number_of plain digits_from
one_to_three = refl

second_not : leading_range (ascii "1:x:v") ≡ None
unfolding ascii first_from number_of plain digits_from
second_not = refl

ten : trailing_range (ascii ":10") ≡ Some (trailing_taken 10 10 false)
unfolding ascii first_from number_of plain digits_from
ten = refl

ten_x : trailing_range (ascii ":10:x") ≡ Some (trailing_taken 10 10 true)
unfolding ascii first_from number_of plain digits_from
ten_x = refl

ten_twelve : trailing_range (ascii ":10:12") ≡ Some (trailing_taken 10 12 false)
unfolding ascii first_from number_of plain digits_from
ten_twelve = refl

third_part : trailing_range (ascii ":10:12:9") ≡ Some (trailing_taken 10 12 false)
unfolding ascii first_from number_of plain digits_from
third_part = refl

empty_second : trailing_range (ascii ":10:") ≡ Some (trailing_taken 10 10 true)
unfolding ascii first_from number_of plain digits_from
empty_second = refl

x_ten : trailing_range (ascii ":x:10") ≡ None
unfolding ascii first_from number_of plain digits_from
x_ten = refl
