-- R-3: "the script bytes that `Arith::push_to_builder` yields, by a table of one opcode byte for each operation, from the opcode document and the Bitcoin script
-- numbering".
use Rattle.std.specs.Prelude.{ℕ, zero, suc, ◌+◌, ◌^◌, Bool, true, false, ◌&&◌, cond, List, [], ◌∷◌, ◌++◌, eqb, leb, ltb, get_or}
use Rattle.slices.specs.Bytes.{little_endian}
use Rattle.semantics.specs.Operations.{Token}

-- the opcodes of kinds 4 to 35, in their order
unfoldable pub opcodes : List ℕ
opcodes =
    -- PUSHCURRENTINPUTINDEX, ADD, SUB, SCRIPTNUMTOLE64, LE64TOSCRIPTNUM
    0xcd ∷ 0x93 ∷ 0x94 ∷ 0xe0 ∷ 0xe1
    -- MUL64, DIV64, ADD64, SUB64, NEG64
    ∷ 0xd9 ∷ 0xda ∷ 0xd7 ∷ 0xd8 ∷ 0xdb
    -- EQUAL, VERIFY, NIP, DROP, AND, OR, XOR, INVERT
    ∷ 0x87 ∷ 0x69 ∷ 0x77 ∷ 0x75 ∷ 0x84 ∷ 0x85 ∷ 0x86 ∷ 0x83
    -- INSPECTINPUTVALUE, INSPECTOUTPUTVALUE, INSPECTINPUTISSUANCE
    ∷ 0xc9 ∷ 0xcf ∷ 0xcc
    -- 2DUP, TOALTSTACK, FROMALTSTACK
    ∷ 0x6e ∷ 0x6b ∷ 0x6c
    -- GREATERTHANOREQUAL64, GREATERTHAN64, LESSTHANOREQUAL64, LESSTHAN64
    ∷ 0xdf ∷ 0xde ∷ 0xdd ∷ 0xdc
    -- CAT, SHA256, CHECKSIGFROMSTACKVERIFY, SWAP
    ∷ 0x7e ∷ 0xa8 ∷ 0xc2 ∷ 0x7c ∷ []

-- EQUALVERIFY
abbrev pub equal_verify : ℕ
equal_verify = 0x88

-- "the shortest script number" of a number below 2^32: the fewest little-endian bytes in which the top bit, the sign, is clear; 0 has none
unfoldable pub number_width : ℕ → ℕ
number_width n =
    cond (eqb n 0) 0 (cond (ltb n (2 ^ 7)) 1 (cond (ltb n (2 ^ 15)) 2 (cond (ltb n (2 ^ 23)) 3 (cond (ltb n (2 ^ 31)) 4 5))))

abbrev pub script_number : ℕ → List ℕ
script_number n = little_endian (number_width n) n

-- `push_int`: "with 0 and 1 to 16 as their own opcodes", 00 and 51 to 60; else the number's length and its bytes
unfoldable pub push_int : ℕ → List ℕ
push_int n = cond (leb 1 n && leb n 16) ((0x50 + n) ∷ []) (number_width n ∷ script_number n)

-- the bytes of a token, by its kind, number and key: "An 8-byte or 32-byte operand is a direct push", its length and its bytes. No form has a token of kind 0
abbrev pub bytes_as : ℕ → ℕ → List ℕ → List ℕ
bytes_as zero number key = []
bytes_as (suc zero) number key = push_int number
bytes_as (suc (suc zero)) number key = 8 ∷ little_endian 8 number
bytes_as (suc (suc (suc zero))) number key = 32 ∷ key
bytes_as (suc (suc (suc (suc k)))) number key = get_or opcodes k 0 ∷ []

abbrev pub bytes_of : Token → List ℕ
bytes_of t = bytes_as t.kind t.number t.key

abbrev pub starts_verify : List Token → Bool
starts_verify [] = false
starts_verify (t ∷ ts) = eqb t.kind 15

-- "Equal followed by Verify in a form is one byte": where `joined` holds this byte was written, and stands for the first token, the Verify, too
abbrev pub script_after : Bool → List Token → List ℕ
script_after joined [] = []
script_after true (t ∷ ts) = script_after false ts
script_after false (t ∷ ts) =
    let joined = eqb t.kind 14 && starts_verify ts in cond joined (equal_verify ∷ []) (bytes_of t) ++ script_after joined ts

-- the script of a token list
unfoldable pub script : List Token → List ℕ
script = script_after false
