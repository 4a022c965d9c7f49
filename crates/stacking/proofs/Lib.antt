mod Tones
