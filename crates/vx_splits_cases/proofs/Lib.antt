mod TightChunks
