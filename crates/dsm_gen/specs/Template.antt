-- The text of the generated programs. Each processor fills its share of the first 1,150 words. Three times all words are
-- then mixed with words some places on, from the first half of the memory to the second and back. At the end the words
-- are added up.
use Rattle.std.specs.Prelude.{ℕ, List, [], ◌∷◌, ◌++◌, flat_map, codes, decimal}
use Rattle.dsm_gen.specs.declared.numbers.Numbers.{Numbers}

-- its lines, with the numbers that differ from program to program
abbrev pub template : Numbers → List (List ℕ)
template n =
    codes ".pages 256"
    ∷ codes ".words 9"
    ∷ codes ".locks 1"
    ∷ codes ".barriers 1"
    ∷ codes "me r1"
    ∷ codes "procs r2"
    ∷ codes "li r3 1150"
    ∷ codes "li r14 0"
    ∷ codes "li r15 3"
    ∷ (codes "li r11 " ++ decimal n.first)
    ∷ codes "mov r4 r1"
    ∷ codes "fill: bge r4 r3 filled"
    ∷ codes "addi r5 r4 1"
    ∷ codes "mul r5 r5 r11"
    ∷ codes "st r5 r4 0"
    ∷ codes "add r4 r4 r2"
    ∷ codes "jmp fill"
    ∷ codes "filled: bar 0"
    ∷ (codes "round: li r11 " ++ decimal n.up)
    ∷ codes "mov r4 r1"
    ∷ codes "up: bge r4 r3 upped"
    ∷ codes "ld r5 r4 0"
    ∷ codes "mul r5 r5 r11"
    ∷ (codes "addi r6 r4 " ++ decimal n.up_by)
    ∷ codes "rem r6 r6 r3"
    ∷ codes "ld r7 r6 0"
    ∷ codes "add r5 r5 r7"
    ∷ codes "st r5 r4 1152"
    ∷ codes "add r4 r4 r2"
    ∷ codes "jmp up"
    ∷ codes "upped: bar 0"
    ∷ (codes "li r11 " ++ decimal n.down)
    ∷ codes "mov r4 r1"
    ∷ codes "down: bge r4 r3 downed"
    ∷ codes "ld r5 r4 1152"
    ∷ codes "mul r5 r5 r11"
    ∷ (codes "addi r6 r4 " ++ decimal n.down_by)
    ∷ codes "rem r6 r6 r3"
    ∷ codes "ld r7 r6 1152"
    ∷ codes "xor r5 r5 r7"
    ∷ codes "st r5 r4 0"
    ∷ codes "add r4 r4 r2"
    ∷ codes "jmp down"
    ∷ codes "downed: bar 0"
    ∷ codes "subi r15 r15 1"
    ∷ codes "bne r15 r14 round"
    ∷ codes "li r8 0"
    ∷ codes "mov r4 r1"
    ∷ codes "own: bge r4 r3 summed"
    ∷ codes "ld r5 r4 0"
    ∷ codes "add r8 r8 r5"
    ∷ codes "add r4 r4 r2"
    ∷ codes "jmp own"
    ∷ codes "summed: lock 0"
    ∷ codes "ld r5 r14 2303"
    ∷ codes "add r5 r5 r8"
    ∷ codes "st r5 r14 2303"
    ∷ codes "unlock 0"
    ∷ codes "bar 0"
    ∷ codes "bne r1 r14 end"
    ∷ codes "ld r5 r14 2303"
    ∷ codes "out r5"
    ∷ codes "end: halt"
    ∷ []

-- the text of some lines: a line feed ends each
abbrev pub text_of : List (List ℕ) → List ℕ
text_of lines = flat_map (λ line. line ++ 10 ∷ []) lines
